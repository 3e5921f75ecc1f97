-- Examples: what some bytes settle, what becomes of them once the input is finished, and how late their tokens are.
use Rattle.std.specs.Prelude.{◌≡◌, ℕ, suc, ◌+◌, Bool, cond, ◌&&◌, ◌||◌, List, [], ◌∷◌, map, codes, ◌==◌, nat_lt, slice_index}
use Rattle.tables.specs.Share.{share_table}
use Rattle.tables.specs.Table.{Table}
use Rattle.munch.specs.Cutting.{Stop, stuck, waits}
use Rattle.munch.specs.Munch.{End, Munch, Token, done, fails}
use Rattle.munch.specs.Settling.{CommonList, FailureSettled, FinishedPoint, SettlingPoint, lateness}

-- The tail table: rule 1 is `a`, and rule 2 is `a` with a tail, any number of `b` and then `c`. State 0 is the start, 1 is
-- behind the `a`, 2 in the tail, 3 behind it, and 4 leads nowhere else.
abbrev pub tail_next : ℕ → ℕ → ℕ
tail_next s b =
    cond (s == 0 && b == 97) 1
    (cond ((s == 1 || s == 2) && b == 98) 2
    (cond ((s == 1 || s == 2) && b == 99) 3 4))

abbrev pub tail_table : Table
tail_table = record { states = 5; next = tail_next; label = λ s. slice_index (0 ∷ 1 ∷ 0 ∷ 2 ∷ 0 ∷ []) s }

-- The states from which a token can still grow.
abbrev pub tail_marks : ℕ → Bool
tail_marks s = nat_lt s 3

-- The tables of the examples.
pub data Rules : Type 0 where
  share : Rules
  tail : Rules

abbrev pub table_of : Rules → Table
table_of share = share_table
table_of tail = tail_table

-- A token, and how many bytes past its end it settles.
pub record Late : Type 0 where
  pub token : Token
  pub late : ℕ

abbrev pub tokens_of : List Late → List Token
tokens_of = map (λ (y : Late). y.token)

abbrev pub point_of : Late → ℕ
point_of y = y.token.place + y.token.length + y.late

-- An example: bytes by a table's rules; the tokens that they settle before the input is finished, and why the cutting
-- stops behind them; and the tokens once the input is finished, and how munch ends.
pub record Example : Type 0 where
  pub rules : Rules
  pub bytes : List ℕ
  pub settled : List Late
  pub stop : Stop
  pub finished : List Late
  pub end : End

abbrev pub example : Rules → List ℕ → List Late → Stop → List Late → End → Example
example rules bytes settled stop finished end =
    record { rules = rules; bytes = bytes; settled = settled; stop = stop; finished = finished; end = end }

-- rule, place, length, and lateness
abbrev pub late : ℕ → ℕ → ℕ → ℕ → Late
late rule place size by = record { token = record { rule = rule; place = place; length = size }; late = by }

abbrev pub examples : List Example
examples =
    example share [] [] waits [] done
    ∷ example share (codes "12") [] waits (late 1 0 2 0 ∷ []) done
    ∷ example share (codes "12.") [] waits (late 1 0 2 1 ∷ late 6 2 1 0 ∷ []) done
    ∷ example share (codes "12.%") (late 1 0 2 2 ∷ late 6 2 1 1 ∷ late 5 3 1 0 ∷ []) waits (late 1 0 2 2 ∷ late 6 2 1 1 ∷ late 5 3 1 0 ∷ []) done
    ∷ example share (13 ∷ []) [] waits [] (fails 0)
    ∷ example share (13 ∷ 65 ∷ []) [] (stuck 0) [] (fails 0)
    ∷ example tail (codes "abd") (late 1 0 1 2 ∷ []) (stuck 1) (late 1 0 1 2 ∷ []) (fails 1)
    ∷ []

-- The tokens, counted from i, have the settling points that the list says, and are as late.
abbrev pub Timed : (ℕ → ℕ → Type 0) → ℕ → List Late → Type 0
Timed Point i [] = Unit {0}
Timed Point i (y ∷ ys) = Point i (point_of y) × (lateness y.token (point_of y) ≡ y.late) × Timed Point (suc i) ys

-- The bytes settle no failure, or failure at a place.
abbrev pub Stops : Table → List ℕ → Stop → Type 0
Stops t x waits = (p : ℕ) → FailureSettled t x p → ⊥
Stops t x (stuck p) = FailureSettled t x p

-- What an example says.
pub record Holds (t : Table) (e : Example) : Type 0 where
  pub common : CommonList t 0 e.bytes (tokens_of e.settled)
  pub points : Timed (SettlingPoint t e.bytes) 1 e.settled
  pub stops : Stops t e.bytes e.stop
  pub munch : Munch t 0 e.bytes (tokens_of e.finished) e.end
  pub final_points : Timed (FinishedPoint t e.bytes) 1 e.finished

abbrev pub AllHold : List Example → Type 0
AllHold [] = Unit {0}
AllHold (e ∷ es) = Holds (table_of e.rules) e × AllHold es

abbrev pub ExamplesLaw : Type 0
ExamplesLaw = AllHold examples
