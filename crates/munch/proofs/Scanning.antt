-- The longest accepted beginning of a word, found byte by byte.
use Rattle.std.proofs.Common.{◌≡◌, ℕ, ◌+◌, ◌<◌, ◌≤◌, cond, ltb, ◌⊎◌, List, [], ◌∷◌, length, get_or, take, Some, None, Option, sym, ap, ◌∙◌, subst, inl, inr, ⊎_elim, arith}
use Rattle.std.proofs.lemmas.List.{length-take-le, take_more, take-take}
use Rattle.std.proofs.lemmas.Bool.{cases_eq, cond-true, lt-ltb}
use Rattle.tables.proofs.Walking.{walk_append}
use Rattle.tables.specs.Openness.{Accepts, walk}
use Rattle.tables.specs.Table.{Table}
use Rattle.munch.specs.Munch.{Accepted, state_at}
use Rattle.munch.specs.Plain.{TellsLongest}
use Rattle.munch.proofs.Chaining.{accepted_take, take_accepted}

-- what a table tells of a state that it has
pub told : {X : Type 0} (s n : ℕ) (r v : X) (answer : Option X) → s < n → answer ≡ cond (ltb s n) (Some v) None → answer ≡ Some r → r ≡ v
told s n r v answer less tells is = let has = cond-true (ltb s n) (Some v) None (lt-ltb s n less) in cc

module _ (t : Table) (w : List ℕ) (n : ℕ) (more : n < length w) where
  -- one more byte leads on from the state before it
  pub state_more : state_at t w (n + 1) ≡ t.next (state_at t w n) (get_or w n 0)
  state_more = ap (walk t 0) (take_more w n 0 more) ∙ walk_append t 0 (take n w) (get_or w n 0 ∷ [])

  -- an accepted beginning with one more byte is all of it, or was accepted before
  accepted_more : (m : ℕ) → Accepted t (take (n + 1) w) m → ((m ≡ n + 1) × Accepts t (state_at t w (n + 1))) ⊎ Accepted t (take n w) m
  accepted_more m a =
      let whole = take_accepted t w (n + 1) m (omega arith) a in
      let few : m ≤ n + 1 = omega (arith, length-take-le (n + 1) w (omega arith), a.within) in
      ⊎_elim
      (λ all. inl (all, subst (λ k. Accepts t (state_at t w k)) all whole.accepts))
      (λ less. inr (accepted_take t w n m (omega arith) (omega (arith, less)) whole))
      (cases_eq m (n + 1))

  -- all of them are accepted: that is the longest
  pub longest_here : Accepts t (state_at t w (n + 1)) → TellsLongest t (take (n + 1) w) (Some (n + 1, t.label (state_at t w (n + 1))))
  longest_here accepts = (
    record {
      accepted = accepted_take t w (n + 1) (n + 1) (omega arith) (omega arith) (record { some = omega arith; within = omega arith; accepts = accepts });
      most = λ m a. omega (arith, length-take-le (n + 1) w (omega arith), a.within);
    },
    ap (λ u. t.label (walk t 0 u)) (sym (take-take (n + 1) (n + 1) w (omega arith))),
  )

  -- all of them are not accepted: the longest is as before
  pub longest_past : t.label (state_at t w (n + 1)) ≡ 0 → (best : Option (ℕ × ℕ)) → TellsLongest t (take n w) best → TellsLongest t (take (n + 1) w) best
  longest_past none None nothing = λ m a. ⊎_elim (λ all. all.1 none) (λ before. nothing m before) (accepted_more m a)
  longest_past none (Some found) longest =
      let whole = take_accepted t w n found.0 (omega arith) longest.0.accepted in
      let few : found.0 ≤ n = omega (arith, length-take-le n w (omega arith), longest.0.accepted.within) in (
        record {
          accepted = accepted_take t w (n + 1) found.0 (omega arith) (omega arith) whole;
          most = λ m a. ⊎_elim (λ all. absurd (all.1 none)) (λ before. longest.0.most m before) (accepted_more m a);
        },
        longest.1 ∙ ap (λ u. t.label (walk t 0 u)) (take-take found.0 n w few ∙ sym (take-take found.0 (n + 1) w (omega arith))),
      )
