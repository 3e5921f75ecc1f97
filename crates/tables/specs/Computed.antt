-- A rule that a test computes at every place of a list, turned into the rule at each.
use Rattle.std.specs.Prelude.{◌≡◌, ℕ, zero, suc, ◌+◌, ◌<◌, Bool, true, ◌&&◌, List, [], ◌∷◌, length, slice_index_or}
use Rattle.std.proofs.Common.{◌∙◌, subst, sym, add-zero, zero-add, add-suc, suc-add, le_of_suc-le-suc, not-suc-le-zero}
use Rattle.std.proofs.lemmas.Bool.{and_parts}

module _ {X : Type 0} (f : ℕ → X → Bool) where
  -- the test f passes at each entry of the list and its place, counted from i
  abbrev pub every : ℕ → List X → Bool
  every i [] = true
  every i (x ∷ xs) = f i x && every (suc i) xs

  from : (xs : List X) (i : ℕ) → every i xs ≡ true → (k : ℕ) (d : X) → k < length xs → f (i + k) (slice_index_or xs k d) ≡ true
  from [] i t k d h = absurd (not-suc-le-zero h)
  from (x ∷ xs) i t zero d h = subst (λ (m : ℕ). f m x ≡ true) (sym (add-zero i)) (and_parts (f i x) (every (suc i) xs) t).0
  from (x ∷ xs) i t (suc k) d h =
      subst (λ (m : ℕ). f m (slice_index_or xs k d) ≡ true) (suc-add i k ∙ sym (add-suc i k))
      (from xs (suc i) (and_parts (f i x) (every (suc i) xs) t).1 k d (le_of_suc-le-suc h))

  pub at : (xs : List X) → every 0 xs ≡ true → (k : ℕ) (d : X) → k < length xs → f k (slice_index_or xs k d) ≡ true
  at xs t k d h = subst (λ (m : ℕ). f m (slice_index_or xs k d) ≡ true) (zero-add k) (from xs 0 t k d h)

-- a list that a rule gives place by place: the rule is computed at each, and eq tells elements apart
pub by_rule : {X : Type 0} (eq : X → X → Bool) → ((x y : X) → eq x y ≡ true → x ≡ y) → (rule : ℕ → X) (xs : List X) (k : ℕ) (d : X) → every (λ i x. eq x (rule i)) 0 xs ≡ true → k < length xs → slice_index_or xs k d ≡ rule k
by_rule eq is rule xs k d t h = is (slice_index_or xs k d) (rule k) (at (λ i x. eq x (rule i)) xs t k d h)
