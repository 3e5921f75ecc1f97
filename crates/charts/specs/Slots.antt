-- The graphs of a rule table.
use Rattle.std.specs.Prelude.{ℕ, ◌*◌, ◌/◌, ◌%◌, cond, Some, None, ◌==◌}
use Rattle.graphs.specs.Graph.{Edges}
use Rattle.tables.specs.Table.{Table}

-- The byte that a slot stands for.
abbrev pub byte_of : ℕ → ℕ
byte_of slot = slot % 256

-- The state that a slot of the backward graph leads to, if it leads anywhere.
abbrev pub state_of : ℕ → ℕ
state_of slot = slot / 256

-- The forward graph: slot b leads to the next state on byte b.
abbrev pub forward : Table → Edges
forward t = record { nodes = t.states; slots = 256; neighbour = λ s slot. Some (t.next s (byte_of slot)) }

-- The backward graph: slot 256 · p + b leads from q to p if the next state of p on byte b is q.
abbrev pub backward : Table → Edges
backward t = record {
  nodes = t.states;
  slots = 256 * t.states;
  neighbour = λ q slot. cond (t.next (state_of slot) (byte_of slot) == q) (Some (state_of slot)) None;
}
