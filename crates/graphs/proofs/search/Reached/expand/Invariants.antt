use Rattle.graphs.specs.Nodes.{has}
use Rattle.graphs.proofs.Growing.{Grows}
use Rattle.graphs.proofs.search.Reached.expand.Given as goal

abbrev pub invariant-loop-slot : goal.invariant-loop-slot
invariant-loop-slot g l = Grows (g.G.Graph.meaning l.graph) (has l.starts) l.node l.slot l.steps l.initial.self.arrivals l.self.arrivals
