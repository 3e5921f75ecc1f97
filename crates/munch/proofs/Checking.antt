-- A test of a given token list: what it shows of munch.
use Rattle.std.proofs.Common.{◌≡◌, ℕ, ◌+◌, ◌-◌, ◌<◌, ◌≤◌, Bool, true, not, ◌&&◌, eqb, ltb, leb, List, [], ◌∷◌, length, drop, sym, refl, ap, ◌∙◌, inl, inr, ⊎_elim, arith}
use Rattle.std.proofs.lemmas.List.{length-drop, nil_from_length}
use Rattle.std.proofs.lemmas.Bool.{and_parts, cases_lt, eqb-true, leb-true, ltb-true}
use Rattle.tables.specs.Table.{Table}
use Rattle.munch.specs.Munch.{End, Ends, First, Longest, Munch, Token, done, fails, state_at}
use Rattle.munch.proofs.Accepting.{Nothing}
use Rattle.munch.proofs.Testing.{accepts_shown, along, passed, quiet}
use Rattle.munch.proofs.Walking.{walk_part}

module _ (t : Table) where
  pub nothing_shown : (x : List ℕ) → along t (quiet t) 0 x ≡ true → Nothing t x
  nothing_shown x silent n a = a.accepts (eqb-true (t.label (state_at t x n)) 0 (passed t (quiet t) 0 x silent n a.some a.within))

  abbrev longest_test : List ℕ → ℕ → Bool
  longest_test x n = (leb 1 n && leb n (length x)) && (not (quiet t (state_at t x n)) && along t (quiet t) (state_at t x n) (drop n x))

  longest_shown : (x : List ℕ) (n : ℕ) → longest_test x n ≡ true → Longest t x n
  longest_shown x n passes =
      let both = and_parts _ _ passes in
      let bounds = and_parts _ _ both.0 in
      let states = and_parts _ _ both.1 in
      let inside : n ≤ length x = leb-true n (length x) bounds.1 in
      record {
        accepted = record { some = leb-true 1 n bounds.0; within = inside; accepts = accepts_shown t (state_at t x n) states.0 };
        most = λ m a. ⊎_elim (λ more. absurd (a.accepts (beyond m inside states.1 more a.within))) (λ few. few) (cases_lt n m);
      }
    where
      beyond : (m : ℕ) → n ≤ length x → along t (quiet t) (state_at t x n) (drop n x) ≡ true → n < m → m ≤ length x → t.label (state_at t x m) ≡ 0
      beyond m inside silent more few =
          let k = m - n in
          let whole : n + k ≡ m = omega arith in
          sym (ap (λ i. t.label (state_at t x i)) whole) ∙ sym (ap t.label (walk_part t 0 x n k))
          ∙ eqb-true _ 0 (passed t (quiet t) (state_at t x n) (drop n x) silent k (omega arith) (simp length-drop (omega arith)))

  abbrev pub first_test : ℕ → List ℕ → Token → Bool
  first_test p x y = longest_test x y.length && (eqb y.rule (t.label (state_at t x y.length)) && eqb y.place p)

  pub first_shown : (p : ℕ) (x : List ℕ) (y : Token) → first_test p x y ≡ true → First t p x y
  first_shown p x y passes =
      let both = and_parts _ _ passes in
      let rest = and_parts _ _ both.1 in
      record { longest = longest_shown x y.length both.0; rule = eqb-true _ _ rest.0; place = eqb-true _ _ rest.1 }

  abbrev ends_test : ℕ → List ℕ → End → Bool
  ends_test p x done = eqb (length x) 0
  ends_test p x (fails q) = eqb q p && (ltb 0 (length x) && along t (quiet t) 0 x)

  ends_shown : (p : ℕ) (x : List ℕ) (end : End) → ends_test p x end ≡ true → Ends t p x end
  ends_shown p x done passes = inl (nil_from_length x (eqb-true (length x) 0 passes), refl)
  ends_shown p x (fails q) passes =
      let both = and_parts _ _ passes in
      let rest = and_parts _ _ both.1 in
      inr (ltb-true 0 (length x) rest.0, nothing_shown x rest.1, ap fails (eqb-true q p both.0))

  abbrev pub munch_test : ℕ → List ℕ → List Token → End → Bool
  munch_test p x [] end = ends_test p x end
  munch_test p x (y ∷ ys) end = first_test p x y && munch_test (p + y.length) (drop y.length x) ys end

  pub munch_shown : (p : ℕ) (x : List ℕ) (ys : List Token) (end : End) → munch_test p x ys end ≡ true → Munch t p x ys end
  munch_shown p x [] end passes = ends_shown p x end passes
  munch_shown p x (y ∷ ys) end passes =
      let both = and_parts _ _ passes in
      (first_shown p x y both.0, munch_shown (p + y.length) (drop y.length x) ys end both.1)
