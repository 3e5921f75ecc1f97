-- What the finder finds: a cycle, or a longest path where there is no cycle.
use Rattle.std.specs.Prelude.{ℕ, ◌<◌, ◌≤◌, List, length}
use Rattle.graphs.specs.Graph.{Edges, Leads}
use Rattle.graphs.specs.declared.route.Route.{Route}
use Rattle.graphs.specs.declared.route.Step.{Step}
use Rattle.graphs.specs.Routes.{steps_of}
use Rattle.cycles.specs.declared.found.Found.{Found}
use Rattle.cycles.specs.declared.found.Found.TheVariants.{Cycle, Longest}

-- A cycle: one or more edges, at most as many as there are nodes, that lead from a node back to it.
pub record IsCycle (g : Edges) (p : Route) : Type 0 where
  pub inside : p.start < g.nodes
  pub some : 0 < length (steps_of p)
  pub few : length (steps_of p) ≤ g.nodes
  pub closes : Leads g p.start (steps_of p) p.start

-- A longest path, with fewer edges than there are nodes, in a graph that has no cycle.
pub record IsLongest (g : Edges) (p : Route) : Type 0 where
  pub inside : p.start < g.nodes
  pub few : length (steps_of p) < g.nodes
  pub last : ℕ
  pub leads : Leads g p.start (steps_of p) last
  pub most : (a b : ℕ) (q : List Step) → Leads g a q b → length q ≤ length (steps_of p)
  pub acyclic : (a : ℕ) (q : List Step) → 0 < length q → Leads g a q a → ⊥

-- What is found in a graph.
abbrev pub Finds : Edges → Found → Type 0
Finds g (Cycle p) = IsCycle g p
Finds g (Longest p) = IsLongest g p
