-- The laws about munch, settling and lateness.
use Rattle.std.specs.Prelude.{◌≡◌, ℕ, suc, ◌+◌, ◌<◌, ◌≤◌, Bool, List, [], ◌∷◌, length, take, slice_index}
use Rattle.tables.specs.Openness.{TellsRightly, Word}
use Rattle.tables.specs.Table.{Sound, Table}
use Rattle.munch.specs.Cutting.{Cut, FinalPoints, Points, Stop, stuck}
use Rattle.munch.specs.Munch.{End, Munch, Token, done, fails}
use Rattle.munch.specs.Settling.{Begins, CommonList, FailureSettled, FinishedPoint, NothingSettled, RightOn, SettlingPoint, Splitter}

-- The tokens of a list lie end to end from place p on, the last of them ending at place q.
abbrev pub EndToEnd : ℕ → List Token → ℕ → Type 0
EndToEnd p [] q = p ≡ q
EndToEnd p (x ∷ xs) q = (x.place ≡ p) × (1 ≤ x.length) × EndToEnd (p + x.length) xs q

-- Where munch of so many bytes ends: behind the last of them, or at the place where it fails, which is before it.
abbrev pub EndsAt : ℕ → End → ℕ → Type 0
EndsAt n done q = q ≡ n
EndsAt n (fails p) q = (q ≡ p) × (p < n)

-- Munch of a word: what it is, that it is the only one, and that its tokens and their end account for every byte.
pub record OneMunch (t : Table) (w : List ℕ) : Type 0 where
  pub tokens : List Token
  pub end : End
  pub munch : Munch t 0 w tokens end
  pub only : (ys : List Token) (other : End) → Munch t 0 w ys other → (ys ≡ tokens) × (other ≡ end)
  pub stop : ℕ
  pub lie : EndToEnd 0 tokens stop
  pub account : EndsAt (length w) end stop

abbrev pub MunchLaw : Type 0
MunchLaw = (t : Table) (w : List ℕ) → OneMunch t w

-- A rule table whose open states are told rightly.
pub record Charts (t : Table) (marks : ℕ → Bool) : Type 0 where
  pub sound : Sound t
  pub right : TellsRightly t marks

-- Every rule table has such marks.
abbrev pub MarksLaw : Type 0
MarksLaw = (t : Table) → Sound t → (marks : ℕ → Bool) × TellsRightly t marks

-- The cutting of the bytes x: what it is, that it is the only one, that its tokens are the common list and the only
-- one, and that it is stuck exactly where failure is settled.
pub record OneCut (t : Table) (marks : ℕ → Bool) (x : List ℕ) : Type 0 where
  pub tokens : List Token
  pub stop : Stop
  pub cut : Cut t marks 0 x tokens stop
  pub only : (ys : List Token) (other : Stop) → Cut t marks 0 x ys other → (ys ≡ tokens) × (other ≡ stop)
  pub common : CommonList t 0 x tokens
  pub common_only : (ys : List Token) → CommonList t 0 x ys → ys ≡ tokens
  pub fails_settled : (p : ℕ) → stop ≡ stuck p → FailureSettled t x p
  pub settled_fails : (p : ℕ) → FailureSettled t x p → stop ≡ stuck p

abbrev pub CutLaw : Type 0
CutLaw = (t : Table) (marks : ℕ → Bool) → Charts t marks → (x : List ℕ) → Word x → OneCut t marks x

-- With no byte taken nothing is settled, also where the start is closed: neither a token nor a failure.
abbrev pub NothingLaw : Type 0
NothingLaw = (t : Table) → NothingSettled t []

-- Every right splitter answers a beginning of the common list.
abbrev pub SplitterLaw : Type 0
SplitterLaw = (t : Table) (split : Splitter) (x : List ℕ) → RightOn t split x → (xs : List Token) → CommonList t 0 x xs → Begins (split x) xs

-- The common list of a beginning of x begins the common list of x.
abbrev pub GrowthLaw : Type 0
GrowthLaw = (t : Table) (x : List ℕ) → Word x → (k : ℕ) (xs ys : List Token) → CommonList t 0 (take k x) xs → CommonList t 0 x ys → Begins xs ys

-- The settling points of the tokens of the common list.
pub record Settles (t : Table) (marks : ℕ → Bool) (x : List ℕ) (ys : List Token) : Type 0 where
  pub points : List ℕ
  pub run : Points t marks 0 x 0 ys points
  pub long : length points ≡ length ys
  pub are : (i : ℕ) → i < length ys → SettlingPoint t x (suc i) (slice_index points i)

abbrev pub PointsLaw : Type 0
PointsLaw = (t : Table) (marks : ℕ → Bool) → Charts t marks → (x : List ℕ) → Word x → (ys : List Token) (stop : Stop) → Cut t marks 0 x ys stop → Settles t marks x ys

-- The settling points of the tokens of munch, once the input is finished.
pub record Finishes (t : Table) (marks : ℕ → Bool) (x : List ℕ) (ys : List Token) : Type 0 where
  pub points : List ℕ
  pub run : FinalPoints t marks 0 x 0 ys points
  pub long : length points ≡ length ys
  pub are : (i : ℕ) → i < length ys → FinishedPoint t x (suc i) (slice_index points i)

abbrev pub FinalPointsLaw : Type 0
FinalPointsLaw = (t : Table) (marks : ℕ → Bool) → Charts t marks → (x : List ℕ) → Word x → (ys : List Token) (end : End) → Munch t 0 x ys end → Finishes t marks x ys
