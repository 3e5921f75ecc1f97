-- The share table: from states 0 to 6 a byte leads to an accepting state, and from state 7 on every word leads to state 10.
use Rattle.std.proofs.Common.{◌≡◌, ℕ, suc, ◌<◌, ◌≤◌, Bool, true, not, ◌&&◌, eqb, ltb, List, [], ◌∷◌, length, get_or, sym, refl, ◌∙◌, subst, ⊎_elim, arith, lit<}
use Rattle.std.proofs.lemmas.Bool.{and_parts, and_left, cases_Bool, cond-false, eq-eqb, ltb-false, ltb-true, ne_eqb, not-true, both_ways}
use Rattle.tables.specs.declared.kinds.Kind.{Kind}
use Rattle.tables.specs.Share.{Step, steps, goes, same, kind_of, share_table, share_marks}
use Rattle.tables.specs.Openness.{Open, TellsRightly, walk}
use Rattle.tables.specs.Computed.{every, at}

-- a byte for each open state, which leads on to an accepting one
abbrev openers : List ℕ
openers = 48 ∷ 48 ∷ 48 ∷ 48 ∷ 48 ∷ 32 ∷ 10 ∷ []

abbrev opens : ℕ → ℕ → Bool
opens s b = ltb b 256 && not (eqb (share_table.label (share_table.next s b)) 0)

open_below : (s : ℕ) → s < 7 → Open share_table s
open_below s h =
    let parts = and_parts _ _ (at opens openers refl s 0 h) in
    record {
      by = get_or openers s 0 ∷ [];
      word = (ltb-true _ _ parts.0, tt);
      some = lit< tt;
      accepted = λ none. both_ways _ (not-true _ parts.1) (eq-eqb _ _ none);
    }

-- no step is named that begins at state 7 or above
early : ℕ → Step → Bool
early i x = ltb x.from 7

goes_late : (s : ℕ) (k : Kind) (i : ℕ) (xs : List Step) → 7 ≤ s → every early i xs ≡ true → goes s k xs ≡ 10
unfolding early
goes_late s k i [] late t = refl
goes_late s k i (x ∷ xs) late t =
    let both = and_parts _ _ t in
    let apart : x.from < 7 = ltb-true x.from 7 both.0 in
    cond-false _ _ _ (and_left _ (same x.on k) (ne_eqb x.from s (λ e. omega (arith, apart))))
    ∙ goes_late s k (suc i) xs late both.1

ends_at_10 : (s b : ℕ) (w : List ℕ) → 7 ≤ s → walk share_table s (b ∷ w) ≡ 10
unfolding early
ends_at_10 s b [] late = goes_late s (kind_of b) 0 steps late refl
ends_at_10 s b (c ∷ w) late =
    let to = goes_late s (kind_of b) 0 steps late refl in
    ends_at_10 (share_table.next s b) c w (omega (arith, to))

closed_from : (s : ℕ) → 7 ≤ s → Open share_table s → ⊥
closed_from s late o = by_cases o.by o.some o.accepted
  where
    by_cases : (w : List ℕ) → 0 < length w → (share_table.label (walk share_table s w) ≡ 0 → ⊥) → ⊥
    by_cases [] some accepted = omega arith
    by_cases (b ∷ w) some accepted = accepted (subst (λ n. share_table.label n ≡ 0) (sym (ends_at_10 s b w late)) refl)

pub share_tells_rightly : TellsRightly share_table share_marks
share_tells_rightly s h = (
  λ told. open_below s (ltb-true s 7 told),
  λ o. ⊎_elim (λ yes. yes) (λ none. absurd (closed_from s (ltb-false s 7 none) o)) (cases_Bool (share_marks s)),
)
