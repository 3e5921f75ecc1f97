use Rattle.std.proofs.Common.{◌≡◌, ℕ, ◌-◌, true}
use Rattle.graphs.specs.Nodes.{has}
use Rattle.graphs.specs.Searching.{Covers, Grown}
use Rattle.graphs.proofs.Lists.{count_below}
use Rattle.graphs.proofs.search.Reached.search.Given as goal

abbrev pub invariant-loop-node : goal.invariant-loop-node
invariant-loop-node g l =
    Grown (g.G.Graph.meaning l.graph) (has l.starts) l.reached.arrivals
    × ((a : ℕ) → has l.expanded a ≡ true → Covers (g.G.Graph.meaning l.graph) a (g.G.Graph.meaning l.graph).slots l.reached.arrivals)

abbrev pub decreases-loop-node : goal.decreases-loop-node
decreases-loop-node g l = 128 - count_below (has l.expanded) 128
