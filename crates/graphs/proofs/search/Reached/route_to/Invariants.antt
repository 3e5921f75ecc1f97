use Rattle.std.proofs.Common.{◌≡◌, length}
use Rattle.graphs.proofs.Routing.{Backs}
use Rattle.graphs.proofs.search.Reached.route_to.Given as goal

abbrev pub invariant-loop-i : goal.invariant-loop-i
invariant-loop-i l = Backs l.self.arrivals l.node l.length l.steps l.i l.at × (length l.steps ≡ 128)
