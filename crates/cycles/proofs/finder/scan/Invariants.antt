use Rattle.std.proofs.Common.{◌≡◌}
use Rattle.cycles.specs.Search.{Knows}
use Rattle.cycles.proofs.finder.scan.Given as goal

-- what the slots before this one told is so
abbrev pub invariant-loop-slot : goal.invariant-loop-slot
invariant-loop-slot g l = Knows (g.G.Graph.meaning l.graph) l.search.marks l.node l.told × (l.told.slot ≡ l.slot)
