use Rattle.std.proofs.Common.{◌≡◌, ℕ, ◌+◌, ◌<◌, length, get_or, take, Some, Option, sym, ap, ◌∙◌, subst, arith, rules}
use Rattle.munch.specs.Munch.{state_at}
use Rattle.munch.specs.Plain.{TellsLongest}
use Rattle.munch.proofs.Scanning.{longest_here, longest_past, state_more, told}
use Rattle.munch.proofs.plain.longest.Goals as goal
use Rattle.munch.proofs.plain.longest.Goals.{then-rule-ne0, else-rule-ne0}

pub loop-i-preserved : goal.loop-i-preserved
loop-i-preserved g c =
    let table = g.T.RuleTable.meaning c.args.table.now in
    let bytes = c.args.bytes.now in
    let i = c.loop-i.i in
    let to = c.in_ok-state.state in
    let more : i < length bytes = omega arith in
    let moved : to ≡ state_at table bytes (i + 1) =
    told c.loop-i.state table.states to _ c.next.result c.loop-i.invariant.1 c.next.ensures c.in_ok-state.was
    ∙ ap (λ s. table.next s (get_or bytes i 0)) c.loop-i.invariant.0 ∙ sym (state_more table bytes i more) in
    let inside : to < table.states = search rules in
    let rule : c.in_ok-rule.rule ≡ table.label (state_at table bytes (i + 1)) =
    told to table.states c.in_ok-rule.rule _ c.label.result inside c.label.ensures c.in_ok-rule.was
    ∙ ap (λ s. table.label s) moved in
    let Tells : Option (ℕ × ℕ) → Type 0 = λ best. TellsLongest table (take (i + 1) bytes) best in (
      moved,
      inside,
      elim c.if-rule-ne0.branch [
        | then-rule-ne0 w ↦
            subst Tells (sym (w.best-is ∙ ap (λ r. Some (i + 1, r)) rule))
            (longest_here table bytes i more (λ none. w.if-rule-ne0.true (rule ∙ none)))
        | else-rule-ne0 w ↦
            subst Tells (sym w.best-is) (longest_past table bytes i more (sym rule ∙ w.if-rule-ne0.false) c.loop-i.best c.loop-i.invariant.2)
      ],
    )
