use Rattle.std.proofs.Common.{◌≡◌, ℕ, ◌&&◌, ltb}
use Rattle.graphs.specs.Nodes.{has}
use Rattle.graphs.specs.Searching.{reached}
use Rattle.graphs.proofs.search.Reached.nodes.Given as goal

abbrev pub invariant-loop-node : goal.invariant-loop-node
invariant-loop-node l = (k : ℕ) → has l.nodes k ≡ (ltb k l.node && reached l.self k)
