-- One test of an example, and what it shows.
use Rattle.std.proofs.Common.{◌≡◌, ℕ, suc, ◌+◌, ◌<◌, Bool, true, ◌&&◌, List, [], ◌∷◌, map, length, get_or, sym, subst, arith}
use Rattle.std.proofs.lemmas.Bool.{and_parts}
use Rattle.tables.specs.Openness.{Word}
use Rattle.tables.specs.Table.{Table}
use Rattle.munch.specs.Cutting.{Cut, Stop, stuck, waits}
use Rattle.munch.specs.Examples.{Example, Holds, Late, Stops, Timed, point_of, tokens_of}
use Rattle.munch.specs.Laws.{Charts}
use Rattle.munch.specs.Munch.{Token}
use Rattle.munch.specs.Settling.{FinishedPoint, SettlingPoint}
use Rattle.munch.proofs.Checking.{munch_shown, munch_test}
use Rattle.munch.proofs.Due.{cut_firsts, munch_firsts}
use Rattle.munch.proofs.Finishing.{is_finished, is_point}
use Rattle.munch.proofs.Settling.{cut_law, cut_list}
use Rattle.munch.proofs.Testing.{all_bytes, word_shown}
use Rattle.munch.proofs.Timing.{cut_shown, cut_test, points_shown, points_test}

-- points by their places in the list, and one by one
timed : (Point : ℕ → ℕ → Type 0) (i : ℕ) (ys : List Late) → ((k : ℕ) → k < length (tokens_of ys) → Point (i + k) (get_or (map point_of ys) k 0)) → Timed Point i ys
timed Point i [] points = tt
timed Point i (y ∷ ys) points = (
  subst (λ j. Point j (point_of y)) (omega arith) (points 0 (omega arith)),
  omega arith,
  timed Point (suc i) ys (λ k less. subst (λ j. Point j (get_or (map point_of ys) k 0)) (omega arith) (points (suc k) (omega arith))),
)

module _ (t : Table) (marks : ℕ → Bool) where
  abbrev pub row_test : Example → Bool
  row_test e =
      (all_bytes e.bytes && cut_test t marks 0 e.bytes (tokens_of e.settled) e.stop)
      && ((points_test t marks 0 e.bytes 0 e.settled && munch_test t 0 e.bytes (tokens_of e.finished) e.end)
      && points_test t marks 0 e.bytes 0 e.finished)

  module _ (charts : Charts t marks) where
    stops_shown : (x : List ℕ) (ys : List Token) (stop : Stop) → Word x → Cut t marks 0 x ys stop → Stops t x stop
    stops_shown x ys waits word cut =
        let law = cut_law t marks charts x word in
        λ p failure. let z : ◌≡◌ {A = ℕ} 0 1 = cc ((law.only ys waits cut).1, law.settled_fails p failure) in omega arith
    stops_shown x ys (stuck p) word cut =
        let law = cut_law t marks charts x word in
        law.fails_settled p (sym (law.only ys (stuck p) cut).1)

    pub row_shown : (e : Example) → row_test e ≡ true → Holds t e
    row_shown e passes =
        let x = e.bytes in
        let both = and_parts _ _ passes in
        let first = and_parts _ _ both.0 in
        let second = and_parts _ _ both.1 in
        let third = and_parts _ _ second.0 in
        let word = word_shown x first.0 in
        let cut = cut_shown t marks 0 x (tokens_of e.settled) e.stop first.1 in
        let munch = munch_shown t 0 x (tokens_of e.finished) e.end third.1 in
        let points = points_shown t marks 0 x 0 e.settled third.0 in
        let final = points_shown t marks 0 x 0 e.finished second.1 in
        record {
          common = cut_list t marks charts 0 x (tokens_of e.settled) e.stop word cut;
          points = timed (SettlingPoint t x) 1 e.settled
              (λ k less. subst (λ j. SettlingPoint t x j (get_or (map point_of e.settled) k 0)) (omega arith)
              (is_point t marks charts x (tokens_of e.settled) (map point_of e.settled) word (cut_firsts t marks charts 0 x (tokens_of e.settled) e.stop word cut) points (tokens_of e.settled) e.stop cut k less less));
          stops = stops_shown x (tokens_of e.settled) e.stop word cut;
          munch = munch;
          final_points = timed (FinishedPoint t x) 1 e.finished
              (λ k less. subst (λ j. FinishedPoint t x j (get_or (map point_of e.finished) k 0)) (omega arith)
              (is_finished t marks charts x (tokens_of e.finished) (map point_of e.finished) word (munch_firsts t 0 x (tokens_of e.finished) e.end munch) final (tokens_of e.settled) e.stop cut k less));
        }
