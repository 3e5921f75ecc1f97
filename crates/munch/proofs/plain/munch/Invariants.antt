use Rattle.std.proofs.Common.{◌≡◌, ◌-◌, ◌≤◌, length, drop}
use Rattle.munch.proofs.Writing.{Written}
use Rattle.munch.proofs.plain.munch.Given as goal

abbrev pub invariant-loop-place : goal.invariant-loop-place
invariant-loop-place g l =
    (l.count ≤ l.place) × (l.place ≤ length l.bytes) × (drop l.count l.list ≡ drop l.count l.initial.list)
    × Written (g.T.RuleTable.meaning l.table) l.bytes l.list l.count l.place

abbrev pub decreases-loop-place : goal.decreases-loop-place
decreases-loop-place g l = length l.bytes - l.place
