-- The laws about reach and lateness.
use Rattle.std.specs.Prelude.{◌≡◌, ℕ, ◌≤◌, Bool, List, [], ◌∷◌, ◌++◌, length, slice_index}
use Rattle.tables.specs.Openness.{Word, walk}
use Rattle.tables.specs.Table.{Sound, Table}
use Rattle.munch.specs.Cutting.{Cut, FinalPoints, Points, Stop, waits}
use Rattle.munch.specs.Endless.{EndlessWords, ReachWords, times}
use Rattle.munch.specs.Laws.{Charts}
use Rattle.munch.specs.Munch.{End, First, Munch, Token}
use Rattle.munch.specs.Reach.{NoReach, Reach, Tokenless}
use Rattle.munch.specs.Settling.{lateness}

-- In a tokenless table no word has a token.
abbrev pub TokenlessLaw : Type 0
TokenlessLaw = (t : Table) → Tokenless t → (w : List ℕ) → Word w → (ys : List Token) (end : End) → Munch t 0 w ys end → ys ≡ []

-- Every token of a list settles at most so many bytes past its end.
abbrev pub AllWithin : ℕ → List Token → List ℕ → Type 0
AllWithin r [] ks = Unit {0}
AllWithin r (y ∷ ys) [] = ⊥
AllWithin r (y ∷ ys) (k ∷ ks) = (lateness y k ≤ r) × AllWithin r ys ks

-- No token is later than the reach, during the input and after its end.
pub record WithinReach (t : Table) (marks : ℕ → Bool) (r : ℕ) (x : List ℕ) : Type 0 where
  pub meanwhile : (ys : List Token) (stop : Stop) (ks : List ℕ) → Cut t marks 0 x ys stop → Points t marks 0 x 0 ys ks → AllWithin r ys ks
  pub finished : (ys : List Token) (end : End) (ks : List ℕ) → Munch t 0 x ys end → FinalPoints t marks 0 x 0 ys ks → AllWithin r ys ks

abbrev pub LatenessLaw : Type 0
LatenessLaw = (t : Table) (marks : ℕ → Bool) → Charts t marks → (r : ℕ) → Reach t r → (x : List ℕ) → Word x → WithinReach t marks r x

-- Chains of every length exist exactly if one comes round: there are three words that show it.
pub record ComesRound (t : Table) : Type 0 where
  pub first : List ℕ
  pub second : List ℕ
  pub loop : List ℕ
  pub words : EndlessWords t first second loop

pub record EndlessLaw (t : Table) : Type 0 where
  pub round : NoReach t → ComesRound t
  pub endless : ComesRound t → NoReach t

abbrev pub RoundLaw : Type 0
RoundLaw = (t : Table) → Sound t → EndlessLaw t

-- The first token of x is the first word u, and x, finished, settles it at its end.
pub record LateFirst (t : Table) (marks : ℕ → Bool) (u x : List ℕ) : Type 0 where
  pub first : First t 0 x (record { rule = t.label (walk t 0 u); place = 0; length = length u })
  pub points : (ys : List Token) (end : End) (ks : List ℕ) → Munch t 0 x ys end → FinalPoints t marks 0 x 0 ys ks → slice_index ks 0 ≡ length x

-- Words that show a reach make the first token exactly that late, once the input is finished.
abbrev pub WitnessLaw : Type 0
WitnessLaw = (t : Table) (marks : ℕ → Bool) → Charts t marks → (r : ℕ) (u v : List ℕ) → ReachWords t r u v → LateFirst t marks u (u ++ v)

-- Words that show that there is no reach keep everything unsettled, however often the loop is taken, and make the first
-- token late by all the bytes after the first word, once the input is finished.
pub record Unsettled (t : Table) (marks : ℕ → Bool) (u x : List ℕ) : Type 0 where
  pub waits_there : Cut t marks 0 x [] waits
  pub late : LateFirst t marks u x

abbrev pub AbsenceLaw : Type 0
AbsenceLaw = (t : Table) (marks : ℕ → Bool) → Charts t marks → (u v loop : List ℕ) → EndlessWords t u v loop → (k : ℕ) → Unsettled t marks u (u ++ (v ++ times k loop))
