use Rattle.std.proofs.Common.{◌≡◌, ℕ, ◌&&◌, ltb}
use Rattle.graphs.specs.Nodes.{has}
use Rattle.charts.specs.Accepting.{accepts}
use Rattle.charts.proofs.chart.accepting.Given as goal

-- the states so far that accept are in the set, and no other
abbrev pub invariant-loop-state : goal.invariant-loop-state
invariant-loop-state g l = (k : ℕ) → has l.accepting k ≡ (ltb k l.state && accepts (g.T.RuleTable.meaning l.table) k)
