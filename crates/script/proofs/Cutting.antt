-- The words of a line, one after another.
use Rattle.std.proofs.Common.{◌≡◌, ℕ, zero, suc, ◌<◌, ◌≤◌, Bool, true, false, not, List, [], ◌∷◌, length, get_or, take, drop, Some, None, sym, refl, ap, ◌∙◌, add-zero, arith}
use Rattle.std.proofs.lemmas.List.{get_or-drop, length-drop, length-take-le, take-append-drop, take_all}
use Rattle.std.proofs.lemmas.List.Quantifiers.{position-Some}
use Rattle.std.proofs.lemmas.Bool.{cond-true, cond-false, both_ways, not-true, not-false}
use Rattle.std.specs.List.{position}
use Rattle.script.specs.Spelling.{Only}
use Rattle.script.specs.Words.{blank, begins, with, words, joined}
use Rattle.script.proofs.Fronts.{Front, front_at, front_none}
use Rattle.script.proofs.Standing.{no_words, words_past, next_word}

-- what stands in front of a place, and right behind it
only_front : (t : Bool) (bytes : List ℕ) (n : ℕ) → n ≤ length bytes → ((k : ℕ) → k < n → blank (get_or bytes k 0) ≡ t) → Only t (take n bytes)
only_front t bytes zero within alike = tt
only_front t [] (suc n) within alike = tt
only_front t (b ∷ bs) (suc n) within alike = (alike 0 (omega arith), only_front t bs n (omega arith) (λ k h. alike (suc k) (omega arith)))

apart : (bytes : List ℕ) (n : ℕ) → (n < length bytes → blank (get_or bytes n 0) ≡ true) → begins (drop n bytes) ≡ false
apart [] zero stops = refl
apart (b ∷ bs) zero stops = ap not (stops (omega arith))
apart [] (suc n) stops = refl
apart (b ∷ bs) (suc n) stops = apart bs n (λ h. stops (omega arith))

-- a line of blanks has no word
pub no_word : (line : List ℕ) → position (λ b. not (blank b)) line ≡ None → words line ≡ []
no_word line none =
    let told = front_none (λ b. not (blank b)) line none in
    ap words (sym (take_all (length line) line (omega arith)))
    ∙ no_words (take (length line) line) (only_front true line (length line) (omega arith) (λ k h. not-false _ (told.before k h)))

-- the first word of a line, of which text is left behind the blanks in front
module _ (line text : List ℕ) (n : ℕ) (first : position (λ b. not (blank b)) line ≡ Some n) (is : text ≡ drop n line) where
  start : Front (λ b. not (blank b)) line n
  start = front_at (λ b. not (blank b)) line n first

  skipped : words line ≡ words text
  skipped =
      ap words (sym (take-append-drop n line))
      ∙ words_past (take n line) (drop n line) (only_front true line n start.within (λ k h. not-false _ (start.before k h)))
      ∙ ap words (sym is)

  here : (0 < length text) × (blank (get_or text 0 0) ≡ false)
  here =
      let at = position-Some (λ b. not (blank b)) line n 0 first in (
        omega (arith, ap length is, length-drop n line, at.0),
        ap (λ l. blank (get_or l 0 0)) is ∙ ap blank (get_or-drop n line 0 0 ∙ ap (λ k. get_or line k 0) (add-zero n)) ∙ not-true (blank (get_or line n 0)) at.1,
      )

  module _ (m : ℕ) (end : Front blank text m) where
    some : (k : ℕ) → k ≡ m → 0 < k
    some zero e = absurd (both_ways (blank (get_or text 0 0)) here.1 (ap (λ k. blank (get_or text k 0)) e ∙ end.stops (omega (arith, here.0))))
    some (suc k) e = omega arith

    pub first_word : (word behind : List ℕ) → word ≡ take m text → behind ≡ drop m text → words line ≡ word ∷ words behind
    first_word word behind head back =
        skipped
        ∙ ap words (sym (take-append-drop m text))
        ∙ next_word (take m text) (drop m text) (omega (arith, length-take-le m text, end.within, some m refl)) (only_front false text m end.within end.before) (apart text m end.stops)
        ∙ ap (λ l. l ∷ words (drop m text)) (sym head)
        ∙ ap (λ l. word ∷ words l) (sym back)

-- the joined words are the line without its blanks
with_joined : (b : ℕ) (t : Bool) (ws : List (List ℕ)) → joined (with b t ws) ≡ b ∷ joined ws
with_joined b t [] = refl
with_joined b true (w ∷ ws) = refl
with_joined b false (w ∷ ws) = refl

pub joined_blank : (b : ℕ) (bs : List ℕ) → blank b ≡ true → joined (words (b ∷ bs)) ≡ joined (words bs)
joined_blank b bs h = ap joined (cond-true (blank b) (words bs) (with b (begins bs) (words bs)) h)

pub joined_other : (b : ℕ) (bs : List ℕ) → blank b ≡ false → joined (words (b ∷ bs)) ≡ b ∷ joined (words bs)
joined_other b bs h = ap joined (cond-false (blank b) (words bs) (with b (begins bs) (words bs)) h) ∙ with_joined b (begins bs) (words bs)
