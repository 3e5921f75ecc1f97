-- Where a walk closes: it is decided, there is one place at most, and a beginning that reaches it has the same.
use Rattle.std.proofs.Common.{◌≡◌, ℕ, zero, suc, ◌≤◌, Bool, true, false, ◌⊎◌, List, length, take, sym, refl, subst, inl, inr, ⊎_elim, arith}
use Rattle.std.proofs.lemmas.List.{length-take, take-take}
use Rattle.std.proofs.lemmas.Bool.{both_ways, cases_Bool, cases_eq, cases_order}
use Rattle.tables.specs.Table.{Table}
use Rattle.munch.specs.Cutting.{Closing, ClosesAt, StaysOpen}
use Rattle.munch.specs.Munch.{state_at}

module _ (t : Table) (marks : ℕ → Bool) where
  -- the walk is open along the first n bytes
  abbrev OpenFor : List ℕ → ℕ → Type 0
  OpenFor x n = (m : ℕ) → 1 ≤ m → m ≤ n → marks (state_at t x m) ≡ true

  open_more : (x : List ℕ) (n : ℕ) → OpenFor x n → marks (state_at t x (suc n)) ≡ true → OpenFor x (suc n)
  open_more x n before here m some few =
      ⊎_elim
      (λ same. subst (λ k. marks (state_at t x k) ≡ true) (sym same) here)
      (λ ne. before m some (omega (arith, ne)))
      (cases_eq m (suc n))

  closes_upto : (x : List ℕ) (n : ℕ) → n ≤ length x → ((k : ℕ) × ClosesAt t marks x k) ⊎ OpenFor x n
  closes_upto x zero within = inr (λ m some few. absurd (omega arith))
  closes_upto x (suc n) within =
      ⊎_elim
      inl
      (λ before.
      ⊎_elim
      (λ here. inr (open_more x n before here))
      (λ shut. inl (suc n, record { some = omega arith; within = within; closed = shut; before = λ m some less. before m some (omega arith) }))
      (cases_Bool (marks (state_at t x (suc n)))))
      (closes_upto x n (omega arith))

  pub closes_or : (x : List ℕ) → ((n : ℕ) × ClosesAt t marks x n) ⊎ StaysOpen t marks x
  closes_or x = closes_upto x (length x) (omega arith)

  pub closing_of : (x : List ℕ) → (n : ℕ) × Closing t marks x n
  closing_of x = ⊎_elim (λ found. (found.0, inl found.1)) (λ open_all. (length x, inr (open_all, refl))) (closes_or x)

  -- a walk that closes does not stay open
  pub closes_apart : (x : List ℕ) (n : ℕ) → ClosesAt t marks x n → StaysOpen t marks x → ⊥
  closes_apart x n closes open_all = both_ways _ closes.closed (open_all n closes.some closes.within)

  pub closes_one : (x : List ℕ) (m n : ℕ) → ClosesAt t marks x m → ClosesAt t marks x n → m ≡ n
  closes_one x m n one two =
      ⊎_elim
      (λ same. same)
      (λ apart.
      ⊎_elim
      (λ less. absurd (both_ways _ one.closed (two.before m one.some less)))
      (λ more. absurd (both_ways _ two.closed (one.before n two.some more)))
      apart)
      (cases_order m n)

  -- the states along a beginning
  same_state : (x : List ℕ) (j m : ℕ) → m ≤ j → state_at t (take j x) m ≡ state_at t x m
  same_state x j m few = rw take-take

  -- where the walk along a beginning closes, the whole walk closes
  pub closes_more : (x : List ℕ) (j n : ℕ) → ClosesAt t marks (take j x) n → (n ≤ j) × ClosesAt t marks x n
  closes_more x j n closes =
      let fits = length-take j x in
      let few : n ≤ j = omega (arith, fits, closes.within) in (
        few,
        record {
          some = closes.some;
          within = omega (arith, fits, closes.within);
          closed = subst (λ s. marks s ≡ false) (same_state x j n few) closes.closed;
          before = λ m some less. subst (λ s. marks s ≡ true) (same_state x j m (omega arith)) (closes.before m some less);
        },
      )

  -- a beginning as long as where the walk closes has the same closing
  pub closes_less : (x : List ℕ) (j n : ℕ) → n ≤ j → ClosesAt t marks x n → ClosesAt t marks (take j x) n
  closes_less x j n few closes = record {
    some = closes.some;
    within = simp length-take (omega (arith, closes.within));
    closed = subst (λ s. marks s ≡ false) (sym (same_state x j n few)) closes.closed;
    before = λ m some less. subst (λ s. marks s ≡ true) (sym (same_state x j m (omega arith))) (closes.before m some less);
  }
