-- The accepting states of a table.
use Rattle.std.specs.Prelude.{ℕ, Bool, not, ◌&&◌, ◌==◌, nat_lt}
use Rattle.tables.specs.Table.{Table}

-- Whether a table has a state that accepts.
abbrev pub accepts : Table → ℕ → Bool
accepts t s = nat_lt s t.states && not (t.label s == 0)
