-- The words that show how late the tokens of a table can be.
use Rattle.std.specs.Prelude.{◌≡◌, ℕ, zero, suc, ◌<◌, ◌≤◌, List, [], ◌++◌, length, take}
use Rattle.tables.specs.Openness.{Open, Word, walk}
use Rattle.tables.specs.Table.{Table}
use Rattle.munch.specs.Reach.{TokenWord, Unaccepting}

-- Two words that show a reach of r at least: the first, of at least one byte, leads from the start to an accepting
-- state, which is open if r is not 0, and the second, of r bytes, follows a chain from there.
pub record ReachWords (t : Table) (r : ℕ) (u v : List ℕ) : Type 0 where
  pub token : TokenWord t u
  pub opened : 1 ≤ r → Open t (walk t 0 u)
  pub along : Unaccepting t (walk t 0 u) v
  pub long : length v ≡ r

-- A word of at least one byte from state s through open states of which none accepts.
pub record Silent (t : Table) (s : ℕ) (w : List ℕ) : Type 0 where
  pub word : Word w
  pub some : 0 < length w
  pub silent : (i : ℕ) → 1 ≤ i → i ≤ length w → t.label (walk t s (take i w)) ≡ 0
  pub opens : (i : ℕ) → 1 ≤ i → i ≤ length w → Open t (walk t s (take i w))

-- Three words that show that there is no reach: the first leads from the start to an open accepting state, the second
-- on through open states that do not accept, and the third, the loop, through such states back to where it began.
pub record EndlessWords (t : Table) (u v loop : List ℕ) : Type 0 where
  pub token : TokenWord t u
  pub opened : Open t (walk t 0 u)
  pub into : Silent t (walk t 0 u) v
  pub round : Silent t (walk t 0 (u ++ v)) loop
  pub back : walk t (walk t 0 (u ++ v)) loop ≡ walk t 0 (u ++ v)

-- A word any number of times.
abbrev pub times : ℕ → List ℕ → List ℕ
times zero w = []
times (suc k) w = w ++ times k w
