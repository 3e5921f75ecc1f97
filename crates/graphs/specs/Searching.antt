-- What a search does.
use Rattle.std.specs.Prelude.{◌≡◌, ℕ, ◌<◌, ◌≤◌, Bool, true, false, ◌⊎◌, List, length, take, is_some, Some, Decides, count_by, Option, MatchOption}
use Rattle.graphs.specs.declared.arrival.Arrival.{Arrival}
use Rattle.graphs.specs.declared.route.Route.{Route}
use Rattle.graphs.specs.declared.search.Reached.{Reached}
use Rattle.graphs.specs.Arrivals.{Traced, reached_at, arrival_at, steps_to}
use Rattle.graphs.specs.Graph.{Edges, Leads, Reaches, tells}
use Rattle.graphs.specs.Routes.{steps_of}

-- Whether a node is marked.
abbrev pub reached : Reached → ℕ → Bool
reached r k = reached_at r.arrivals k

-- A search marks exactly the nodes that are reached from the given ones, and can trace them back.
pub record Searched (g : Edges) (given : ℕ → Bool) (r : Reached) : Type 0 where
  pub marks : (b : ℕ) → Decides (reached r b) (Reaches g given b)
  pub traced : Traced g given r.arrivals

-- A path from a given node to node b, of one edge or more and at most as many as there are nodes.
pub record Path (g : Edges) (given : ℕ → Bool) (b : ℕ) (p : Route) : Type 0 where
  pub starts : given p.start ≡ true
  pub some : 0 < length (steps_of p)
  pub few : length (steps_of p) ≤ g.nodes
  pub leads : Leads g p.start (steps_of p) b

-- A path to each marked node, and to no other.
abbrev pub RouteTo : Edges → (ℕ → Bool) → Reached → ℕ → Option Route → Type 0
RouteTo g given r b answer = MatchOption answer (reached r b ≡ false) (λ p. (reached r b ≡ true) × Path g given b p)

-- While a search goes on: nodes of the graph are reached, each in at most as many steps as nodes were reached.
pub record Grown (g : Edges) (given : ℕ → Bool) (xs : List (Option Arrival)) : Type 0 where
  pub traced : Traced g given xs
  pub inside : (k : ℕ) → reached_at xs k ≡ true → k < g.nodes
  pub counted : (k : ℕ) → steps_to xs k ≤ count_by is_some (take g.nodes xs)

-- A node that is given or reached.
abbrev pub Known : (ℕ → Bool) → List (Option Arrival) → ℕ → Type 0
Known given xs k = (given k ≡ true) ⊎ (reached_at xs k ≡ true)

-- A node whose slots are still to be asked, or none where those of every given and reached node were.
abbrev pub Pending : (ℕ → Bool) → List (Option Arrival) → (ℕ → Bool) → ℕ → Option ℕ → Type 0
Pending given xs expanded n answer =
    MatchOption answer
    ((k : ℕ) → k < n → Known given xs k → expanded k ≡ true)
    (λ k. (k < n) × Known given xs k × (expanded k ≡ false))

-- The neighbours behind the first n slots of a node are reached.
abbrev pub Covers : Edges → ℕ → ℕ → List (Option Arrival) → Type 0
Covers g a n xs = (s b : ℕ) → s < n → tells g a s ≡ Some b → reached_at xs b ≡ true

-- What was reached stays as it was noted.
abbrev pub Keeps : List (Option Arrival) → List (Option Arrival) → Type 0
Keeps xs ys = (k : ℕ) → reached_at xs k ≡ true → arrival_at ys k ≡ arrival_at xs k

-- The slots of node a were asked.
pub record Expanded (g : Edges) (given : ℕ → Bool) (a : ℕ) (before after : List (Option Arrival)) : Type 0 where
  pub grown : Grown g given after
  pub keeps : Keeps before after
  pub covers : Covers g a g.slots after
