use Rattle.std.proofs.Common.{◌≡◌, ◌*◌, ◌≤◌, length, refl, mul-le-mul, arith, rules}
use Rattle.std.proofs.lemmas.List.{length-take, length-drop}
use Rattle.images.specs.Image.{state_count}
use Rattle.images.proofs.Filled.{classes_inside, labels_are_bytes, steps_inside, writes_down}
use Rattle.images.proofs.loaded.LoadedTable.fill.Goals as goal

pub copy_front-requires-3 : goal.copy_front-requires-3
copy_front-requires-3 c =
    let all : length c.args.self.now.steps ≡ 8192 = search rules in
    let fits : c.args.size.states * c.args.size.classes ≤ 8192 = mul-le-mul c.requires.size.few_states c.requires.size.few_classes in
    simp (length-take, length-drop) (omega (arith, all, fits, c.requires.long))

pub invariant_of-self : goal.invariant_of-self
invariant_of-self c =
    let m = c.requires in
    record {
      some_state = omega (arith, m.size.states, (m.orderly state_count 258 refl).right);
      few_states = m.size.few_states;
      few_classes = m.size.few_classes;
      classes_inside = λ b h. rw c.copy_front.ensures (classes_inside _ _ _ m _ _ refl b h);
      labels_are_bytes = λ s h. rw c.copy_front-2.ensures (labels_are_bytes _ _ _ m _ _ refl (λ i. omega (arith, c.type_inv.image i)) s h);
      steps_inside = λ i h. rw c.copy_front-3.ensures (steps_inside _ _ _ m _ _ refl i h);
    }

pub returns : goal.returns
returns c = rw (c.copy_front.ensures, c.copy_front-2.ensures, c.copy_front-3.ensures) (writes_down _ _ _ c.requires _ _ _ _ _ _ refl refl refl)
