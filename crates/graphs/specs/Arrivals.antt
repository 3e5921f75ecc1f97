-- What a search notes of the nodes that it reached.
use Rattle.std.specs.Prelude.{◌≡◌, ℕ, ◌+◌, ◌<◌, ◌≤◌, Bool, true, cond, List, is_some, Some, None, Option, slice_index_or, slice_set}
use Rattle.graphs.specs.declared.arrival.Arrival.{Arrival}
use Rattle.graphs.specs.Graph.{Edges, tells}

-- How the search came to a node, if it did.
abbrev pub arrival_at : List (Option Arrival) → ℕ → Option Arrival
arrival_at xs k = slice_index_or xs k None

-- The number of steps of an arrival, and to a node: 0 where it is not reached.
abbrev pub arrival_steps : Option Arrival → ℕ
arrival_steps None = 0
arrival_steps (Some a) = a.steps

abbrev pub steps_to : List (Option Arrival) → ℕ → ℕ
steps_to xs k = arrival_steps (arrival_at xs k)

abbrev pub reached_at : List (Option Arrival) → ℕ → Bool
reached_at xs k = is_some (arrival_at xs k)

-- The notes with an arrival at a node, if it is the first there.
abbrev pub noted : List (Option Arrival) → ℕ → Arrival → List (Option Arrival)
noted xs k a = cond (reached_at xs k) xs (slice_set xs k (Some a))

-- An arrival at node b is by an edge: from a given node if it is the first step, and else from a node that was
-- reached by one step less.
pub record Arrived (g : Edges) (given : ℕ → Bool) (xs : List (Option Arrival)) (b : ℕ) (a : Arrival) : Type 0 where
  pub edge : tells g a.from a.slot ≡ Some b
  pub some : 1 ≤ a.steps
  pub first : a.steps ≡ 1 → given a.from ≡ true
  pub later : 1 < a.steps → steps_to xs a.from + 1 ≡ a.steps

-- The notes lead back to the given nodes, in at most as many steps as there are nodes.
pub record Traced (g : Edges) (given : ℕ → Bool) (xs : List (Option Arrival)) : Type 0 where
  pub back : (b : ℕ) (a : Arrival) → arrival_at xs b ≡ Some a → Arrived g given xs b a
  pub few : (b : ℕ) → steps_to xs b ≤ g.nodes
