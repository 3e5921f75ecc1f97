use Rattle.std.proofs.Common.{ℕ, ◌<◌, ◌≤◌}
use Rattle.cycles.specs.Search.{height_of, mark_of}
use Rattle.cycles.proofs.finder.tallest.Given as goal

-- no node so far is taller
abbrev pub invariant-loop-node : goal.invariant-loop-node
invariant-loop-node g l = (l.best < l.node) × ((v : ℕ) → v < l.node → height_of (mark_of l.search.marks v) ≤ height_of (mark_of l.search.marks l.best))
