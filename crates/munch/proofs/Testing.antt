-- Tests that compute, and what they show: of each number below a limit, of each byte of a word, and of each state along it.
use Rattle.std.proofs.Common.{◌≡◌, ℕ, zero, suc, ◌<◌, ◌≤◌, Bool, true, not, ◌&&◌, eqb, ltb, List, [], ◌∷◌, length, take, sym, subst, ⊎_elim, arith}
use Rattle.std.proofs.lemmas.Bool.{and_parts, cases_eq, eqb-false, ltb-true, not-true}
use Rattle.tables.specs.Openness.{Accepts, Word, walk}
use Rattle.tables.specs.Table.{Table}

-- every number below n passes
abbrev pub all_below : (ℕ → Bool) → ℕ → Bool
all_below f zero = true
all_below f (suc n) = f n && all_below f n

pub below : (f : ℕ → Bool) (n : ℕ) → all_below f n ≡ true → (k : ℕ) → k < n → f k ≡ true
below f zero all k less = absurd (omega arith)
below f (suc n) all k less =
    let both = and_parts (f n) (all_below f n) all in
    ⊎_elim
    (λ same. subst (λ j. f j ≡ true) (sym same) both.0)
    (λ other. below f n both.1 k (omega (arith, other)))
    (cases_eq k n)

-- every byte of a word is one
abbrev pub all_bytes : List ℕ → Bool
all_bytes [] = true
all_bytes (b ∷ w) = ltb b 256 && all_bytes w

pub word_shown : (w : List ℕ) → all_bytes w ≡ true → Word w
word_shown [] all = tt
word_shown (b ∷ w) all =
    let both = and_parts (ltb b 256) (all_bytes w) all in
    (ltb-true b 256 both.0, word_shown w both.1)

module _ (t : Table) where
  -- a state does not accept
  abbrev pub quiet : ℕ → Bool
  quiet s = eqb (t.label s) 0

  pub accepts_shown : (s : ℕ) → not (quiet s) ≡ true → Accepts t s
  accepts_shown s loud = eqb-false (t.label s) 0 (not-true (quiet s) loud)

  -- every state that a beginning of at least one byte leads to from s passes
  abbrev pub along : (ℕ → Bool) → ℕ → List ℕ → Bool
  along f s [] = true
  along f s (b ∷ w) = f (t.next s b) && along f (t.next s b) w

  pub passed : (f : ℕ → Bool) (s : ℕ) (w : List ℕ) → along f s w ≡ true → (m : ℕ) → 1 ≤ m → m ≤ length w → f (walk t s (take m w)) ≡ true
  passed f s [] all m some few = absurd (omega arith)
  passed f s (b ∷ w) all zero some few = absurd (omega arith)
  passed f s (b ∷ w) all (suc zero) some few = (and_parts (f (t.next s b)) (along f (t.next s b) w) all).0
  passed f s (b ∷ w) all (suc (suc m)) some few =
      passed f (t.next s b) w (and_parts (f (t.next s b)) (along f (t.next s b) w) all).1 (suc m) (omega arith) (omega arith)
