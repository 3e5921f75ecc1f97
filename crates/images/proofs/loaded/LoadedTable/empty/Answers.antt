use Rattle.std.proofs.Common.{ℕ, ◌+◌, ◌*◌, get_or, replicate, refl, arith, lit≤, lit<}
use Rattle.std.proofs.lemmas.List.{get_or-replicate}
use Rattle.images.proofs.loaded.LoadedTable.empty.Goals as goal

pub invariant_of-result : goal.invariant_of-result
invariant_of-result c =
    record {
      some_state = lit≤ tt;
      few_states = lit≤ tt;
      few_classes = lit≤ tt;
      classes_inside = λ b h. omega (arith, get_or-replicate {A = ℕ} 256 b 0 0 h);
      labels_are_bytes = λ s h. omega (arith, get_or-replicate {A = ℕ} 128 s 0 0 (omega arith));
      steps_inside = λ i h. omega (arith, get_or-replicate {A = ℕ} 8192 i 0 0 (omega arith));
    }

pub returns : goal.returns
returns c =
    record {
      one = refl;
      stays = λ b h. get_or-replicate 8192 (0 * 1 + get_or (replicate {A = ℕ} 256 0) b 0) 0 0 (omega (arith, get_or-replicate {A = ℕ} 256 b 0 0 h));
      accepts_nothing = get_or-replicate 128 0 0 0 (lit< tt);
    }
