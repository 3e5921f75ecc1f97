-- The first token of a word: it is decided whether there is one, and there is one at most.
use Rattle.std.proofs.Common.{◌≡◌, ℕ, zero, suc, ◌≤◌, ◌⊎◌, List, length, sym, refl, ap, ◌∙◌, subst, inl, inr, ⊎_elim, arith}
use Rattle.std.proofs.lemmas.Bool.{cases_eq}
use Rattle.tables.specs.Table.{Table}
use Rattle.munch.specs.Munch.{Accepted, First, Longest, Token, state_at}

-- tokens with the same rule, place and length are the same
token_same : (x y : Token) → x.rule ≡ y.rule → x.place ≡ y.place → x.length ≡ y.length → x ≡ y
token_same x y rule place long =
    let token : ℕ → ℕ → ℕ → Token = λ r p n. record { rule = r; place = p; length = n } in
    ap (λ r. token r x.place x.length) rule ∙ ap (λ p. token y.rule p x.length) place ∙ ap (λ n. token y.rule y.place n) long

-- no beginning of the word is accepted
abbrev pub Nothing : Table → List ℕ → Type 0
Nothing t w = (n : ℕ) → Accepted t w n → ⊥

module _ (t : Table) where
  accepted_or : (w : List ℕ) (n : ℕ) → 1 ≤ n → n ≤ length w → Accepted t w n ⊎ (Accepted t w n → ⊥)
  accepted_or w n some within =
      ⊎_elim
      (λ none. inr (λ a. a.accepts none))
      (λ accepts. inl (record { some = some; within = within; accepts = accepts }))
      (cases_eq (t.label (state_at t w n)) 0)

  -- the longest accepted beginning of at most n bytes
  record Upto (w : List ℕ) (n k : ℕ) : Type 0 where
    pub accepted : Accepted t w k
    pub most : (m : ℕ) → m ≤ n → Accepted t w m → m ≤ k

  upto : (w : List ℕ) (n : ℕ) → n ≤ length w → ((k : ℕ) × Upto w n k) ⊎ ((m : ℕ) → m ≤ n → Accepted t w m → ⊥)
  upto w zero within = inr (λ m few a. omega (arith, a.some))
  upto w (suc n) within =
      ⊎_elim
      (λ here. inl (suc n, record { accepted = here; most = λ m few a. few }))
      (λ none.
      ⊎_elim
      (λ found. inl (found.0, record { accepted = found.1.accepted; most = λ m few a. found.1.most m (below none m few a) a }))
      (λ nothing. inr (λ m few a. nothing m (below none m few a) a))
      (upto w n (omega arith)))
      (accepted_or w (suc n) (omega arith) within)
    where
      below : (Accepted t w (suc n) → ⊥) → (m : ℕ) → m ≤ suc n → Accepted t w m → m ≤ n
      below none m few a =
          ⊎_elim
          (λ same. absurd (none (subst (λ k. Accepted t w k) same a)))
          (λ ne. omega (arith, ne))
          (cases_eq m (suc n))

  pub longest_or : (w : List ℕ) → ((n : ℕ) × Longest t w n) ⊎ Nothing t w
  longest_or w =
      ⊎_elim
      (λ found. inl (found.0, record { accepted = found.1.accepted; most = λ m a. found.1.most m a.within a }))
      (λ nothing. inr (λ m a. nothing m a.within a))
      (upto w (length w) (omega arith))

  pub longest_one : (w : List ℕ) (m n : ℕ) → Longest t w m → Longest t w n → m ≡ n
  longest_one w m n first second = omega (arith, first.most n second.accepted, second.most m first.accepted)

  pub first_or : (p : ℕ) (w : List ℕ) → ((x : Token) × First t p w x) ⊎ Nothing t w
  first_or p w =
      ⊎_elim
      (λ found. inl (record { rule = t.label (state_at t w found.0); place = p; length = found.0 }, record { longest = found.1; rule = refl; place = refl }))
      inr
      (longest_or w)

  pub first_one : (p : ℕ) (w : List ℕ) (x y : Token) → First t p w x → First t p w y → x ≡ y
  first_one p w x y one two =
      let long = longest_one w x.length y.length one.longest two.longest in
      token_same x y (one.rule ∙ ap (λ n. t.label (state_at t w n)) long ∙ sym two.rule) (one.place ∙ sym two.place) long

  -- a first token has a byte, and lies within the word
  pub first_some : (p : ℕ) (w : List ℕ) (x : Token) → First t p w x → 1 ≤ x.length
  first_some p w x first = first.longest.accepted.some

  pub first_within : (p : ℕ) (w : List ℕ) (x : Token) → First t p w x → x.length ≤ length w
  first_within p w x first = first.longest.accepted.within
