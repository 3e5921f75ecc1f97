-- A graph with some of the edges of another.
use Rattle.std.specs.Prelude.{ℕ, Bool, cond, Some, None, Option}
use Rattle.graphs.specs.Graph.{Edges}

-- An edge stays if it leads from the one set into the other.
abbrev pub kept : (ℕ → Bool) → Option ℕ → Option ℕ
kept into None = None
kept into (Some b) = cond (into b) (Some b) None

-- The same nodes and slots, and just the edges from one set of nodes into another.
abbrev pub narrowed : Edges → (ℕ → Bool) → (ℕ → Bool) → Edges
narrowed g from into = record {
  nodes = g.nodes;
  slots = g.slots;
  neighbour = λ a s. cond (from a) (kept into (g.neighbour a s)) None;
}
