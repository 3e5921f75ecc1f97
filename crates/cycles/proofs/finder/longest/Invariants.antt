use Rattle.std.proofs.Common.{◌≡◌, ◌+◌, ◌<◌, length}
use Rattle.graphs.specs.Graph.{Leads}
use Rattle.cycles.specs.Search.{height_of, mark_of, rank}
use Rattle.cycles.proofs.finder.longest.Given as goal

-- the steps so far lead to a node that is done, from where the rest is left
abbrev pub invariant-loop-step : goal.invariant-loop-step
invariant-loop-step g l =
    Leads (g.G.Graph.meaning l.graph) l.start l.steps.items l.node
    × (0 < rank (mark_of l.search.marks l.node))
    × (height_of (mark_of l.search.marks l.node) + length l.steps.items ≡ height_of (mark_of l.search.marks l.start))

abbrev pub decreases-loop-step : goal.decreases-loop-step
decreases-loop-step g l = height_of (mark_of l.search.marks l.node)
