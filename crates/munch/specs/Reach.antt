-- How late the tokens of a table can be.
use Rattle.std.specs.Prelude.{◌≡◌, ℕ, ◌<◌, ◌≤◌, List, length, take}
use Rattle.tables.specs.Openness.{Accepts, Open, Word, walk}
use Rattle.tables.specs.Table.{Table}

-- No word of at least one byte leads from the start to an accepting state.
abbrev pub Tokenless : Table → Type 0
Tokenless t = (w : List ℕ) → Word w → 0 < length w → Accepts t (walk t 0 w) → ⊥

-- A word from state s that goes on, one byte each, through states of which none accepts, and all but the last are open.
pub record Unaccepting (t : Table) (s : ℕ) (w : List ℕ) : Type 0 where
  pub word : Word w
  pub silent : (i : ℕ) → 1 ≤ i → i ≤ length w → t.label (walk t s (take i w)) ≡ 0
  pub opens : (i : ℕ) → 1 ≤ i → i < length w → Open t (walk t s (take i w))

-- A word of at least one byte that leads from the start to an accepting state.
pub record TokenWord (t : Table) (w : List ℕ) : Type 0 where
  pub word : Word w
  pub some : 0 < length w
  pub accepts : Accepts t (walk t 0 w)

-- A chain of length k, at least 1: it begins at an open accepting state to which a word of at least one byte leads,
-- and goes on through k states, none accepting, and all but the last open.
pub record Chain (t : Table) (k : ℕ) : Type 0 where
  pub to : List ℕ
  pub token : TokenWord t to
  pub opened : Open t (walk t 0 to)
  pub on : List ℕ
  pub along : Unaccepting t (walk t 0 to) on
  pub some : 1 ≤ k
  pub long : length on ≡ k

-- The reach is the greatest length of a chain, and 0 without chains.
pub record Reach (t : Table) (k : ℕ) : Type 0 where
  pub most : (j : ℕ) → Chain t j → j ≤ k
  pub met : 1 ≤ k → Chain t k

-- There is no reach when chains of every length exist.
abbrev pub NoReach : Table → Type 0
NoReach t = (k : ℕ) → 1 ≤ k → Chain t k
