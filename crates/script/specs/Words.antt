-- The words of a line.
use Rattle.std.specs.Prelude.{ℕ, Bool, false, cond, not, ◌||◌, List, [], ◌∷◌, ◌==◌}
use Rattle.std.specs.List.{flat_map}

-- What separates words: a space, a tab or a CR.
abbrev pub blank : ℕ → Bool
blank b = b == 32 || (b == 9 || b == 13)

-- Whether a word stands right at the front of a line.
abbrev pub begins : List ℕ → Bool
begins [] = false
begins (b ∷ bs) = not (blank b)

-- The words of a line, from those of the line behind its first byte b, which is no blank: b belongs to
-- the first of them if that word stands right behind b, and else is a word by itself.
abbrev pub with : ℕ → Bool → List (List ℕ) → List (List ℕ)
with b right [] = (b ∷ []) ∷ []
with b right (w ∷ ws) = cond right ((b ∷ w) ∷ ws) ((b ∷ []) ∷ (w ∷ ws))

abbrev pub words : List ℕ → List (List ℕ)
words [] = []
words (b ∷ bs) = cond (blank b) (words bs) (with b (begins bs) (words bs))

-- Words that stand together, with nothing between them.
abbrev pub joined : List (List ℕ) → List ℕ
joined = flat_map (λ w. w)
