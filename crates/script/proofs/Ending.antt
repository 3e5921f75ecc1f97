-- The lines of a script, one after another.
use Rattle.std.proofs.Common.{◌≡◌, ℕ, zero, suc, ◌-◌, ◌<◌, ◌≤◌, eqb, ◌==◌, List, [], ◌∷◌, length, get_or, take, drop, sym, refl, ap, ◌∙◌, add-one, ⊎_elim, arith}
use Rattle.std.proofs.lemmas.List.{length-drop, take_all, drop-drop}
use Rattle.std.proofs.lemmas.Bool.{cond-true, cond-false, eq-eqb, ne_eqb, eqb-true, eqb-false, cases_Bool}
use Rattle.script.specs.Lines.{lines, onto}
use Rattle.script.proofs.Fronts.{Front}

-- the first LF ends the first line
pub lines_cut : (script : List ℕ) (n : ℕ) → n < length script → ((k : ℕ) → k < n → get_or script k 0 ≡ 10 → ⊥) → get_or script n 0 ≡ 10 → lines script ≡ take n script ∷ lines (drop (suc n) script)
lines_cut [] n within inside ends = absurd (omega arith)
lines_cut (b ∷ bs) zero within inside ends = cond-true (eqb b 10) ([] ∷ lines bs) (onto b (lines bs)) (eq-eqb b 10 ends)
lines_cut (b ∷ bs) (suc n) within inside ends =
    cond-false (eqb b 10) ([] ∷ lines bs) (onto b (lines bs)) (ne_eqb b 10 (inside 0 (omega arith)))
    ∙ ap (onto b) (lines_cut bs n (omega arith) (λ k h. inside (suc k) (omega arith)) ends)

-- a script with no LF is one line
pub lines_one : (b : ℕ) (bs : List ℕ) → ((k : ℕ) → k < suc (length bs) → get_or (b ∷ bs) k 0 ≡ 10 → ⊥) → lines (b ∷ bs) ≡ (b ∷ bs) ∷ []
lines_one b [] inside = cond-false (eqb b 10) ([] ∷ []) (onto b []) (ne_eqb b 10 (inside 0 (omega arith)))
lines_one b (c ∷ bs) inside =
    cond-false (eqb b 10) ([] ∷ lines (c ∷ bs)) (onto b (lines (c ∷ bs))) (ne_eqb b 10 (inside 0 (omega arith)))
    ∙ ap (onto b) (lines_one c bs (λ k h. inside (suc k) (omega arith)))

whole_line : (script : List ℕ) (n : ℕ) → Front (λ b. b == 10) script n → length script ≡ n → 0 < length script → lines script ≡ script ∷ []
whole_line [] n told all some = absurd (omega arith)
whole_line (b ∷ bs) n told all some = lines_one b bs (λ k h. eqb-false _ 10 (told.before k (omega arith)))

-- the first line, and what stands behind the LF, if there is one
module _ (script line behind : List ℕ) (n : ℕ) (told : Front (λ b. b == 10) script n) (some : 0 < length script) (head : line ≡ take n script) (back : behind ≡ drop n script) where
  long : length behind ≡ length script - n
  long = ap length back ∙ length-drop n script

  cases : (ls : List ℕ) → ls ≡ behind → lines script ≡ line ∷ lines (drop 1 ls)
  cases [] e =
      let all : length script ≡ n = omega (arith, long, ap length e, told.within) in
      whole_line script n told all some ∙ ap (λ l. l ∷ []) (sym (take_all n script (omega arith)) ∙ sym head)
  cases (b ∷ bs) e =
      let more : n < length script = omega (arith, long, ap length e) in
      lines_cut script n more (λ k h. eqb-false _ 10 (told.before k h)) (eqb-true _ 10 (told.stops more))
      ∙ ap (λ l. l ∷ lines (drop (suc n) script)) (sym head)
      ∙ ap (λ k. line ∷ lines (drop k script)) (sym (add-one n))
      ∙ ap (λ l. line ∷ lines l) (sym (ap (drop 1) e ∙ ap (drop 1) back ∙ drop-drop 1 n script))

  pub next_line : (behind' : List ℕ) → behind' ≡ drop 1 behind → lines script ≡ line ∷ lines behind'
  next_line behind' e = cases behind refl ∙ ap (λ l. line ∷ lines l) (sym e)

onto_few : (b : ℕ) (ls : List (List ℕ)) → length (onto b ls) ≤ suc (length ls)
onto_few b [] = omega arith
onto_few b (l ∷ ls) = omega arith

-- there are no more lines than bytes
pub lines_few : (script : List ℕ) → length (lines script) ≤ length script
lines_few [] = omega arith
lines_few (b ∷ bs) =
    ⊎_elim
    (λ h. rw h (omega (arith, lines_few bs)))
    (λ h. rw h (omega (arith, onto_few b (lines bs), lines_few bs)))
    (cases_Bool (eqb b 10))
