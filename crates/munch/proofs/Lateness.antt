-- A tokenless table has no token, and no token is later than the reach.
use Rattle.std.proofs.Common.{◌≡◌, ℕ, ◌+◌, ◌-◌, ◌<◌, ◌≤◌, max, Bool, true, List, [], ◌∷◌, length, take, drop, refl, ⊎_elim, arith}
use Rattle.std.proofs.lemmas.Bool.{both_ways, cases_lt}
use Rattle.tables.specs.Openness.{Word}
use Rattle.tables.specs.Table.{Table}
use Rattle.munch.specs.Cutting.{ClosesAt, Closing, Cut, Due, FinalPoints, Points, Stop}
use Rattle.munch.specs.Laws.{Charts}
use Rattle.munch.specs.Munch.{Accepted, End, First, Munch, Token, state_at}
use Rattle.munch.specs.Reach.{Reach}
use Rattle.munch.specs.ReachLaws.{AllWithin, LatenessLaw, TokenlessLaw}
use Rattle.munch.proofs.Chaining.{accepted_take, accepted_word, chain_between, silent_if, take_accepted, told_open}
use Rattle.tables.proofs.Walking.{word_drop}

pub tokenless : TokenlessLaw
tokenless t none w word [] end munch = refl
tokenless t none w word (y ∷ ys) end munch =
    let found = accepted_word t w y.length word munch.0.longest.accepted in
    absurd (none (take y.length w) found.word found.some found.accepts)

-- the walk along the same bytes closes at one place
closes_by : (t : Table) (marks : ℕ → Bool) (x : List ℕ) (m n : ℕ) → ClosesAt t marks x m → ClosesAt t marks x n → m ≤ n
closes_by t marks x m n first second =
    ⊎_elim
    (λ less. absurd (both_ways _ second.closed (first.before n second.some less)))
    (λ more. more)
    (cases_lt n m)

-- the latest of the settling points stays within r bytes of the ends
latest : (r p place prev k m n : ℕ) → place ≡ p → k ≡ max prev (p + n) → n ≤ m + r → prev ≤ p + r → (k - (place + m) ≤ r) × (k ≤ (p + m) + r)
latest r p place prev k m n here is few before = omega arith

module _ (t : Table) (marks : ℕ → Bool) (charts : Charts t marks) (r : ℕ) (reach : Reach t r) where
  -- a walk that is open before n bytes goes on at most r bytes past the longest beginning accepted within them
  walks_on : (x : List ℕ) (m n : ℕ) → Word x → Accepted t x m → n ≤ length x → ((i : ℕ) → 1 ≤ i → i < n → marks (state_at t x i) ≡ true) → ((i : ℕ) → i ≤ n → Accepted t x i → i ≤ m) → n ≤ m + r
  walks_on x m n word a inside told most =
      ⊎_elim
      (λ less.
      let silent : (i : ℕ) → m < i → i ≤ n → t.label (state_at t x i) ≡ 0 = λ i more few. silent_if t (state_at t x i) (λ accepts. omega (arith, most i few (record { some = omega arith; within = omega arith; accepts = accepts }))) in
      omega (arith, reach.most (n - m) (chain_between t x m n word a less inside silent (λ i more few. told_open t marks charts x i word (told i (omega (arith, a.some)) few)))))
      (λ more. omega arith)
      (cases_lt m n)

  due_within : (p : ℕ) (x : List ℕ) (y : Token) (n : ℕ) → Word x → Due t marks p x y → ClosesAt t marks x n → n ≤ y.length + r
  due_within p x y n word due closes =
      let at = due.at in
      let here = due.closes in
      let longest = due.first.longest in
      omega (
        arith,
        closes_by t marks x n at closes here,
        walks_on x y.length at word (take_accepted t x at y.length here.within longest.accepted) here.within here.before (λ i few a. longest.most i (accepted_take t x at i here.within few a)),
      )

  first_within : (p : ℕ) (x : List ℕ) (y : Token) (n : ℕ) → Word x → First t p x y → Closing t marks x n → n ≤ y.length + r
  first_within p x y n word first closing =
      ⊎_elim
      (λ closes. within closes.within closes.before)
      (λ stays. within (omega (arith, stays.1)) (λ i some few. stays.0 i some (omega (arith, stays.1))))
      closing
    where
      within : n ≤ length x → ((i : ℕ) → 1 ≤ i → i < n → marks (state_at t x i) ≡ true) → n ≤ y.length + r
      within inside told = walks_on x y.length n word first.longest.accepted inside told (λ i few a. first.longest.most i a)

  meanwhile_from : (p : ℕ) (x : List ℕ) (prev : ℕ) → Word x → prev ≤ p + r → (ys : List Token) (stop : Stop) (ks : List ℕ) → Cut t marks p x ys stop → Points t marks p x prev ys ks → AllWithin r ys ks
  meanwhile_from p x prev word before [] stop ks cut points = tt
  meanwhile_from p x prev word before (y ∷ ys) stop [] cut points = points
  meanwhile_from p x prev word before (y ∷ ys) stop (k ∷ ks) cut points =
      let next = latest r p y.place prev k y.length points.0 cut.0.first.place points.2 (due_within p x y points.0 word cut.0 points.1) before in
      (next.0, meanwhile_from (p + y.length) (drop y.length x) k (word_drop y.length x word) next.1 ys stop ks cut.1 points.3)

  finished_from : (p : ℕ) (x : List ℕ) (prev : ℕ) → Word x → prev ≤ p + r → (ys : List Token) (end : End) (ks : List ℕ) → Munch t p x ys end → FinalPoints t marks p x prev ys ks → AllWithin r ys ks
  finished_from p x prev word before [] end ks munch points = tt
  finished_from p x prev word before (y ∷ ys) end [] munch points = points
  finished_from p x prev word before (y ∷ ys) end (k ∷ ks) munch points =
      let next = latest r p y.place prev k y.length points.0 munch.0.place points.2 (first_within p x y points.0 word munch.0 points.1) before in
      (next.0, finished_from (p + y.length) (drop y.length x) k (word_drop y.length x word) next.1 ys end ks munch.1 points.3)

pub within_reach : LatenessLaw
within_reach t marks charts r reach x word = record {
  meanwhile = meanwhile_from t marks charts r reach 0 x 0 word (omega arith);
  finished = finished_from t marks charts r reach 0 x 0 word (omega arith);
}
