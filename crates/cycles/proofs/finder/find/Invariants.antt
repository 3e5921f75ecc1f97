use Rattle.std.proofs.Common.{◌≡◌, ℕ, ◌<◌, []}
use Rattle.cycles.specs.declared.search.Mark.TheVariants.{New}
use Rattle.cycles.specs.Search.{SoundIn, mark_of}
use Rattle.cycles.proofs.finder.find.Given as goal

-- the notes are right, the trail is empty, and the nodes so far were reached
abbrev pub invariant-loop-root : goal.invariant-loop-root
invariant-loop-root g l =
    SoundIn (g.G.Graph.meaning l.graph) l.search
    × (l.search.trail.items ≡ [])
    × ((v : ℕ) → v < l.root → mark_of l.search.marks v ≡ New → ⊥)
