-- The words of a line are those that stand in it.
use Rattle.std.proofs.Common.{◌≡◌, ℕ, ◌<◌, Bool, true, false, not, List, [], ◌∷◌, ◌++◌, length, sym, refl, ap, ◌∙◌, subst, ⊎_elim, arith}
use Rattle.std.proofs.lemmas.Bool.{cond-true, cond-false, cases_Bool, both_ways}
use Rattle.script.specs.Spelling.{Only, Holds, Cuts}
use Rattle.script.specs.Words.{blank, begins, with, words}

words_blank : (b : ℕ) (bs : List ℕ) → blank b ≡ true → words (b ∷ bs) ≡ words bs
words_blank b bs h = cond-true (blank b) (words bs) (with b (begins bs) (words bs)) h

words_other : (b : ℕ) (bs : List ℕ) → blank b ≡ false → words (b ∷ bs) ≡ with b (begins bs) (words bs)
words_other b bs h = cond-false (blank b) (words bs) (with b (begins bs) (words bs)) h

with_none : (b : ℕ) (ws : List (List ℕ)) → with b false ws ≡ (b ∷ []) ∷ ws
with_none b [] = refl
with_none b (w ∷ ws) = refl

-- blanks hold no word, and those before a word do not matter
pub no_words : (line : List ℕ) → Only true line → words line ≡ []
no_words [] only = refl
no_words (b ∷ bs) only = words_blank b bs only.0 ∙ no_words bs only.1

pub words_past : (before line : List ℕ) → Only true before → words (before ++ line) ≡ words line
words_past [] line only = refl
words_past (b ∷ bs) line only = words_blank b (bs ++ line) only.0 ∙ words_past bs line only.1

first_word : (b : ℕ) (w behind : List ℕ) → Only false (b ∷ w) → begins behind ≡ false → words ((b ∷ w) ++ behind) ≡ (b ∷ w) ∷ words behind
first_word b [] behind only apart =
    words_other b behind only.0 ∙ ap (λ t. with b t (words behind)) apart ∙ with_none b (words behind)
first_word b (c ∷ w) behind only apart =
    words_other b ((c ∷ w) ++ behind) only.0
    ∙ ap (λ t. with b t (words ((c ∷ w) ++ behind))) (ap not only.1.0)
    ∙ ap (with b true) (first_word c w behind only.1 apart)

pub next_word : (w behind : List ℕ) → 0 < length w → Only false w → begins behind ≡ false → words (w ++ behind) ≡ w ∷ words behind
next_word [] behind some only apart = absurd (omega arith)
next_word (b ∷ w) behind some only apart = first_word b w behind only apart

only_words : (ws : List (List ℕ)) (line : List ℕ) → Holds ws line → ws ≡ words line
only_words [] line holds = sym (no_words line holds)
only_words (w ∷ ws) line (before, behind, is, blanks, some, solid, apart, more) =
    ap (λ l. w ∷ l) (only_words ws behind more)
    ∙ sym (ap words is ∙ words_past before (w ++ behind) blanks ∙ next_word w behind some solid apart)

-- one byte more in front
holds_blank : (b : ℕ) (ws : List (List ℕ)) (bs : List ℕ) → blank b ≡ true → Holds ws bs → Holds ws (b ∷ bs)
holds_blank b [] bs h holds = (h, holds)
holds_blank b (w ∷ ws) bs h (before, behind, is, blanks, some, solid, apart, more) =
    (b ∷ before, behind, ap (λ l. b ∷ l) is, (h, blanks), some, solid, apart, more)

apart_blanks : (bs : List ℕ) → Only true bs → begins bs ≡ false
apart_blanks [] only = refl
apart_blanks (b ∷ bs) only = ap not only.0

alone : (b : ℕ) (ws : List (List ℕ)) (bs : List ℕ) → blank b ≡ false → begins bs ≡ false → Holds ws bs → Holds ((b ∷ []) ∷ ws) (b ∷ bs)
alone b ws bs h apart holds = ([], bs, refl, tt, omega arith, (h, tt), apart, holds)

-- a word right at the front has nothing before it
longer : (b : ℕ) (w : List ℕ) (ws : List (List ℕ)) (bs : List ℕ) → blank b ≡ false → begins bs ≡ true → Holds (w ∷ ws) bs → Holds ((b ∷ w) ∷ ws) (b ∷ bs)
longer b w ws bs h right ([], behind, is, blanks, some, solid, apart, more) =
    ([], behind, ap (λ l. b ∷ l) is, tt, omega arith, (h, solid), apart, more)
longer b w ws bs h right (c ∷ before, behind, is, blanks, some, solid, apart, more) =
    absurd (both_ways (begins bs) (ap begins is ∙ ap not blanks.0) right)

holds_other : (b : ℕ) (ws : List (List ℕ)) (bs : List ℕ) (t : Bool) → begins bs ≡ t → blank b ≡ false → Holds ws bs → Holds (with b t ws) (b ∷ bs)
holds_other b [] bs t e h holds = alone b [] bs h (apart_blanks bs holds) holds
holds_other b (w ∷ ws) bs true e h holds = longer b w ws bs h e holds
holds_other b (w ∷ ws) bs false e h holds = alone b (w ∷ ws) bs h e holds

all_words : (line : List ℕ) → Holds (words line) line
all_words [] = tt
all_words (b ∷ bs) =
    ⊎_elim
    (λ h. subst (λ ws. Holds ws (b ∷ bs)) (sym (words_blank b bs h)) (holds_blank b (words bs) bs h (all_words bs)))
    (λ h. subst (λ ws. Holds ws (b ∷ bs)) (sym (words_other b bs h)) (holds_other b (words bs) bs (begins bs) refl h (all_words bs)))
    (cases_Bool (blank b))

pub cuts : (line : List ℕ) → Cuts line
cuts line = record { holds = all_words line; only = λ ws h. only_words ws line h }
