-- How late tokens are, said of their settling points alone, for every table.
use Rattle.std.specs.Prelude.{◌≡◌, ℕ, suc, ◌+◌, ◌*◌, ◌<◌, ◌≤◌, List, ◌++◌, length, slice_index_or}
use Rattle.tables.specs.Openness.{Word}
use Rattle.tables.specs.Table.{Sound, Table}
use Rattle.munch.specs.Endless.{EndlessWords, ReachWords, times}
use Rattle.munch.specs.Munch.{End, First, Munch, Token}
use Rattle.munch.specs.Reach.{Reach}
use Rattle.munch.specs.Settling.{CommonList, FinishedPoint, NothingSettled, SettlingPoint, lateness}

-- No token of the bytes x is later than r, during the input and once it is finished.
pub record NoLater (t : Table) (r : ℕ) (x : List ℕ) : Type 0 where
  pub meanwhile : (ys : List Token) → CommonList t 0 x ys → (i k : ℕ) (y : Token) → i < length ys → SettlingPoint t x (suc i) k → lateness (slice_index_or ys i y) k ≤ r
  pub finished : (ys : List Token) (end : End) → Munch t 0 x ys end → (i k : ℕ) (y : Token) → i < length ys → FinishedPoint t x (suc i) k → lateness (slice_index_or ys i y) k ≤ r

-- No token is later than the reach.
abbrev pub NoLaterLaw : Type 0
NoLaterLaw = (t : Table) → Sound t → (r : ℕ) → Reach t r → (x : List ℕ) → Word x → NoLater t r x

-- Once x is finished, its first token is late by r: its settling point is so many bytes past its end.
pub record FirstLate (t : Table) (x : List ℕ) (r : ℕ) : Type 0 where
  pub token : Token
  pub first : First t 0 x token
  pub at : ℕ
  pub point : FinishedPoint t x 1 at
  pub only : (k : ℕ) → FinishedPoint t x 1 k → k ≡ at
  pub late : at ≡ token.place + token.length + r

-- Words that show a reach, one after the other and finished, make the first token exactly that late.
abbrev pub ExactLaw : Type 0
ExactLaw = (t : Table) → Sound t → (r : ℕ) (u v : List ℕ) → ReachWords t r u v → FirstLate t (u ++ v) r

-- Words that show that there is no reach settle nothing, however often the loop is taken; finished there, the first
-- token is late by all the bytes after the first word.
pub record EverLater (t : Table) (u v loop : List ℕ) (k : ℕ) : Type 0 where
  pub nothing : NothingSettled t (u ++ (v ++ times k loop))
  pub late : FirstLate t (u ++ (v ++ times k loop)) (length v + k * length loop)

abbrev pub EverLaterLaw : Type 0
EverLaterLaw = (t : Table) → Sound t → (u v loop : List ℕ) → EndlessWords t u v loop → (k : ℕ) → EverLater t u v loop k
