-- More numbers than they have values: two of them have the same.
use Rattle.std.proofs.Common.{◌≡◌, ℕ, zero, suc, ◌-◌, ◌<◌, ◌≤◌, min, max, ◌⊎◌, subst, inl, inr, ⊎_elim, arith}
use Rattle.std.proofs.lemmas.Bool.{cases_eq}

-- one number below n with a property that can be decided, or none
pub find : (P : ℕ → Type 0) → ((i : ℕ) → P i ⊎ (P i → ⊥)) → (n : ℕ) → ((i : ℕ) × (i < n) × P i) ⊎ ((i : ℕ) → i < n → P i → ⊥)
find P decide zero = inr (λ i less has. omega arith)
find P decide (suc n) =
    ⊎_elim
    (λ has. inl (n, omega arith, has))
    (λ lacks.
    ⊎_elim
    (λ found. inl (found.0, omega (arith, found.1), found.2))
    (λ none. inr (λ i less has. ⊎_elim (λ same. lacks (subst P same has)) (λ other. none i (omega arith) has) (cases_eq i n)))
    (find P decide n))
    (decide n)

-- the numbers without v: those above it move down by one
lowered : ℕ → ℕ → ℕ
lowered v a = min a (max v (a - 1))

lowered_below : (v a n : ℕ) → v < suc n → a < suc n → (a ≡ v → ⊥) → lowered v a < n
unfolding lowered
lowered_below v a n here less other = omega arith

lowered_same : (v a b : ℕ) → (a ≡ v → ⊥) → (b ≡ v → ⊥) → lowered v a ≡ lowered v b → a ≡ b
unfolding lowered
lowered_same v a b first second same = omega arith

-- two numbers up to n with the same value
pub record Repeat (f : ℕ → ℕ) (n : ℕ) : Type 0 where
  pub earlier : ℕ
  pub later : ℕ
  pub less : earlier < later
  pub inside : later ≤ n
  pub same : f earlier ≡ f later

pub repeats : (n : ℕ) (f : ℕ → ℕ) → ((i : ℕ) → i ≤ n → f i < n) → Repeat f n
repeats zero f below = absurd (omega (arith, below 0 (omega arith)))
repeats (suc n) f below =
    ⊎_elim
    (λ found. record { earlier = found.0; later = suc n; less = found.1; inside = omega arith; same = found.2 })
    (λ none.
    let two = repeats n (λ i. lowered (f (suc n)) (f i)) (λ i few. lowered_below (f (suc n)) (f i) n (below (suc n) (omega arith)) (below i (omega arith)) (none i (omega arith))) in
    record {
      earlier = two.earlier;
      later = two.later;
      less = two.less;
      inside = omega (arith, two.inside);
      same = lowered_same (f (suc n)) (f two.earlier) (f two.later) (none two.earlier (omega (arith, two.less, two.inside))) (none two.later (omega (arith, two.inside))) two.same;
    })
    (find (λ i. f i ≡ f (suc n)) (λ i. cases_eq (f i) (f (suc n))) (suc n))
