-- Tests of a given cutting and of given settling points, and what they show.
use Rattle.std.proofs.Common.{◌≡◌, ℕ, suc, ◌+◌, ◌-◌, ◌≤◌, max, Bool, true, cond, not, ◌&&◌, ◌||◌, eqb, leb, List, [], ◌∷◌, map, length, take, drop, refl, ap, subst, inl, inr, ⊎_elim, arith}
use Rattle.std.proofs.lemmas.List.{length-take-le, take-take}
use Rattle.std.proofs.lemmas.Bool.{and_parts, eqb-true, leb-true, not-true, or_cases}
use Rattle.tables.specs.Openness.{walk}
use Rattle.tables.specs.Table.{Table}
use Rattle.munch.specs.Cutting.{ClosesAt, Closing, Cut, FinalPoints, Stop, stuck, waits}
use Rattle.munch.specs.Examples.{Late, point_of, tokens_of}
use Rattle.munch.specs.Munch.{Token, state_at}
use Rattle.munch.proofs.Checking.{first_shown, first_test, nothing_shown}
use Rattle.munch.proofs.Testing.{along, passed, quiet}

module _ (t : Table) (marks : ℕ → Bool) where
  abbrev closes_test : List ℕ → ℕ → Bool
  closes_test x n = (leb 1 n && leb n (length x)) && (not (marks (state_at t x n)) && along t marks 0 (take (n - 1) x))

  closes_shown : (x : List ℕ) (n : ℕ) → closes_test x n ≡ true → ClosesAt t marks x n
  closes_shown x n passes =
      let both = and_parts _ _ passes in
      let bounds = and_parts _ _ both.0 in
      let states = and_parts _ _ both.1 in
      let inside : n ≤ length x = leb-true n (length x) bounds.1 in
      record {
        some = leb-true 1 n bounds.0;
        within = inside;
        closed = not-true (marks (state_at t x n)) states.0;
        before = λ m some less.
            subst (λ w. marks (walk t 0 w) ≡ true) (take-take m (n - 1) x (omega arith))
            (passed t marks 0 (take (n - 1) x) states.1 m some (omega (arith, length-take-le (n - 1) x (omega arith))));
      }

  -- how many bytes of x the walk from s takes until it closes: all of them if it does not
  abbrev closing : ℕ → List ℕ → ℕ
  closing s [] = 0
  closing s (b ∷ x) = suc (cond (marks (t.next s b)) (closing (t.next s b) x) 0)

  abbrev pub cut_test : ℕ → List ℕ → List Token → Stop → Bool
  cut_test p x [] waits = along t marks 0 x
  cut_test p x [] (stuck q) = eqb q p && (closes_test x (closing 0 x) && along t (quiet t) 0 (take (closing 0 x) x))
  cut_test p x (y ∷ ys) stop =
      (closes_test x (closing 0 x) && first_test t p (take (closing 0 x) x) y) && cut_test (p + y.length) (drop y.length x) ys stop

  pub cut_shown : (p : ℕ) (x : List ℕ) (ys : List Token) (stop : Stop) → cut_test p x ys stop ≡ true → Cut t marks p x ys stop
  cut_shown p x [] waits passes = inl (passed t marks 0 x passes, refl)
  cut_shown p x [] (stuck q) passes =
      let both = and_parts _ _ passes in
      let rest = and_parts _ _ both.1 in
      inr (record { at = closing 0 x; closes = closes_shown x (closing 0 x) rest.0; nothing = nothing_shown t (take (closing 0 x) x) rest.1 }, ap stuck (eqb-true q p both.0))
  cut_shown p x (y ∷ ys) stop passes =
      let both = and_parts _ _ passes in
      let due = and_parts _ _ both.0 in (
        record { at = closing 0 x; closes = closes_shown x (closing 0 x) due.0; first = first_shown t p (take (closing 0 x) x) y due.1 },
        cut_shown (p + y.length) (drop y.length x) ys stop both.1,
      )

  abbrev closing_test : List ℕ → ℕ → Bool
  closing_test x n = closes_test x n || (along t marks 0 x && eqb n (length x))

  closing_shown : (x : List ℕ) (n : ℕ) → closing_test x n ≡ true → Closing t marks x n
  closing_shown x n passes =
      ⊎_elim
      (λ closes. inl (closes_shown x n closes))
      (λ never. let both = and_parts _ _ never in inr (passed t marks 0 x both.0, eqb-true n (length x) both.1))
      (or_cases (closes_test x n) (along t marks 0 x && eqb n (length x)) passes)

  abbrev pub points_test : ℕ → List ℕ → ℕ → List Late → Bool
  points_test p x prev [] = true
  points_test p x prev (y ∷ ys) =
      (closing_test x (closing 0 x) && eqb (point_of y) (max prev (p + closing 0 x)))
      && points_test (p + y.token.length) (drop y.token.length x) (point_of y) ys

  pub points_shown : (p : ℕ) (x : List ℕ) (prev : ℕ) (ys : List Late) → points_test p x prev ys ≡ true → FinalPoints t marks p x prev (tokens_of ys) (map point_of ys)
  points_shown p x prev [] passes = refl
  points_shown p x prev (y ∷ ys) passes =
      let both = and_parts _ _ passes in
      let here = and_parts _ _ both.0 in (
        closing 0 x,
        closing_shown x (closing 0 x) here.0,
        eqb-true (point_of y) (max prev (p + closing 0 x)) here.1,
        points_shown (p + y.token.length) (drop y.token.length x) (point_of y) ys both.1,
      )
