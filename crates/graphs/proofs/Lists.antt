-- Lists of one value at every place, and how many numbers pass a test.
use Rattle.std.proofs.Common.{◌≡◌, ℕ, zero, suc, ◌+◌, ◌-◌, ◌<◌, ◌≤◌, Bool, true, false, cond, ◌≢◌, get_or, replicate, sym, refl, ap, subst, ⊎_elim, arith}
use Rattle.std.proofs.lemmas.List.{get_or_past, get_or-replicate, length-replicate}
use Rattle.std.proofs.lemmas.Bool.{cases_eq, cases_lt, cond-false, cond-true, cond_both}

module _ {X : Type 0} where
  -- what stands at a place of a list of equal values, and past its end
  pub everywhere : (n : ℕ) (x : X) (k : ℕ) → get_or (replicate n x) k x ≡ x
  everywhere n x k =
      ⊎_elim
      (λ less. get_or-replicate n k x x less)
      (λ more. get_or_past (replicate n x) k x (omega (arith, length-replicate n x)))
      (cases_lt k n)

-- how many numbers below n pass a test
abbrev pub count_below : (ℕ → Bool) → ℕ → ℕ
count_below f zero = 0
count_below f (suc n) = cond (f n) 1 0 + count_below f n

count_few : (f : ℕ → Bool) (n : ℕ) → count_below f n ≤ n
count_few f zero = omega arith
count_few f (suc n) = cond_both (f n) 1 0 (λ m. m + count_below f n ≤ suc n) (λ _. omega (arith, count_few f n)) (λ _. omega (arith, count_few f n))

-- one number more passes
module _ (f g : ℕ → Bool) (i : ℕ) (unset : f i ≡ false) (here : g i ≡ true) (others : (k : ℕ) → k ≢ i → g k ≡ f k) where
  step_of : (ℕ → Bool) → ℕ → ℕ
  step_of h n = cond (h n) 1 0

  same_before : (n : ℕ) → n ≤ i → count_below g n ≡ count_below f n
  unfolding step_of
  same_before zero few = refl
  same_before (suc n) few =
      let same : step_of g n ≡ step_of f n = ap (λ (b : Bool). cond b 1 0) (others n (λ is. omega (arith, is, few))) in
      omega (arith, same, same_before n (omega (arith, few)))

  one_more : (n : ℕ) → i < n → count_below g n ≡ count_below f n + 1
  unfolding step_of
  one_more zero less = absurd (omega (arith, less))
  one_more (suc n) less =
      ⊎_elim
      (λ is.
      let set : step_of g n ≡ 1 = cond-true (g n) 1 0 (subst (λ m. g m ≡ true) (sym is) here) in
      let was : step_of f n ≡ 0 = cond-false (f n) 1 0 (subst (λ m. f m ≡ false) (sym is) unset) in
      omega (arith, set, was, same_before n (omega (arith, is))))
      (λ ne.
      let same : step_of g n ≡ step_of f n = ap (λ (b : Bool). cond b 1 0) (others n ne) in
      omega (arith, same, one_more n (omega (arith, ne, less))))
      (cases_eq n i)

  pub marked_less : (n : ℕ) → i < n → n - count_below g n < n - count_below f n
  marked_less n less = omega (arith, one_more n less, count_few g n)
