use Rattle.std.proofs.Common.{◌≡◌, ℕ, ◌+◌, ◌<◌, ◌≤◌, ◌==◌, List, [], ◌∷◌, length, drop, Bor, Some, None, Option, MatchOption, ◌⊎◌, ⊎_elim, sym, refl, ap, ◌∙◌, arith}
use Rattle.std.proofs.lemmas.Bool.{eqb-false}
use Rattle.std.proofs.lemmas.List.{length-drop, take_rest}
use Rattle.std.specs.List.{slice_range}
use Rattle.std.specs.Option.{unwrap_or}
use Rattle.script.proofs.Ending.{next_line}
use Rattle.script.proofs.Fronts.{front_or_all}
use Rattle.script.proofs.lines.first_line.Goals as goal

-- what stands behind the LF, if there is one
no_more : (bytes : List ℕ) → length bytes < 1 → bytes ≡ drop 1 bytes
no_more [] h = refl
no_more (b ∷ bs) h = absurd (omega arith)

behind_lf : (behind next : Bor (List ℕ)) (found : Option (Bor (List ℕ))) → MatchOption found ((length behind.now < 1) ⊎ (length behind.now < length behind.now)) (λ x. (1 ≤ length behind.now) × (length behind.now ≤ length behind.now) × (x.now ≡ slice_range behind.now 1 (length behind.now)) × (length x.now + 1 ≡ length behind.now)) → next ≡ unwrap_or found behind → next.now ≡ drop 1 behind.now
behind_lf behind next None told is = ap (λ b. b.now) is ∙ no_more behind.now (⊎_elim (λ h. h) (λ h. absurd (omega arith)) told)
behind_lf behind next (Some x) told is = ap (λ b. b.now) is ∙ told.2 ∙ take_rest behind.now 1

pub split_at-requires : goal.split_at-requires
split_at-requires c = (front_or_all (λ b. b == 10) _ _ _ c.line_end.ensures c.unwrap_or-length.ensures).within

pub returns : goal.returns
returns c =
    let cut = c.split_at.ensures in
    let some : 0 < length c.args.script.now = omega (arith, eqb-false _ 0 (sym c.if-is_empty.ensures)) in
    let rest = behind_lf _ _ _ c.get.ensures.lookup.0 c.unwrap_or.ensures in (
      next_line _ _ _ _ (front_or_all (λ b. b == 10) _ _ _ c.line_end.ensures c.unwrap_or-length.ensures) some cut.front cut.back _ rest,
      omega (arith, some, ap length rest, length-drop 1 c.split_at.result.1.now, ap length cut.back, length-drop c.unwrap_or-length.result c.args.script.now),
    )
