use Rattle.cycles.specs.Search.{SoundIn, Reached, todo}
use Rattle.cycles.proofs.finder.explore.Given as goal

-- the notes are right, and a node that was reached stays reached
abbrev pub invariant-loop-top : goal.invariant-loop-top
invariant-loop-top g l = SoundIn (g.G.Graph.meaning l.graph) l.search × Reached l.initial.search l.search

abbrev pub decreases-loop-top : goal.decreases-loop-top
decreases-loop-top g l = todo (g.G.Graph.meaning l.graph) l.search
