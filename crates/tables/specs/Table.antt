-- What a rule table means.
use Rattle.std.specs.Prelude.{◌≡◌, ℕ, ◌<◌, ◌≤◌, cond, Some, None, Option, nat_lt}

-- A rule table: its states are numbered from 0, and state 0 is the start. A label of 0 says that the state
-- does not accept, and any other is the rule that it accepts.
pub record Table : Type 0 where
  pub states : ℕ
  pub next : ℕ → ℕ → ℕ
  pub label : ℕ → ℕ

-- What holds of every rule table: it has 1 to 128 states, no byte leads out of it, and a label is one byte.
pub record Sound (t : Table) : Type 0 where
  pub some : 1 ≤ t.states
  pub few : t.states ≤ 128
  pub inside : (s b : ℕ) → s < t.states → b < 256 → t.next s b < t.states
  pub labels : (s : ℕ) → s < t.states → t.label s < 256

-- What a table tells of a state that it may not have: none for state n or above.
abbrev pub tells_next : Table → ℕ → ℕ → Option ℕ
tells_next t s b = cond (nat_lt s t.states) (Some (t.next s b)) None

abbrev pub tells_label : Table → ℕ → Option ℕ
tells_label t s = cond (nat_lt s t.states) (Some (t.label s)) None

-- The empty table: one state, which accepts nothing, and which every byte leads back to.
pub record Empty (t : Table) : Type 0 where
  pub one : t.states ≡ 1
  pub stays : (b : ℕ) → b < 256 → t.next 0 b ≡ 0
  pub accepts_nothing : t.label 0 ≡ 0

-- Two tables tell the same.
pub record Same (t u : Table) : Type 0 where
  pub states : t.states ≡ u.states
  pub next : (s b : ℕ) → s < t.states → b < 256 → t.next s b ≡ u.next s b
  pub label : (s : ℕ) → s < t.states → t.label s ≡ u.label s
