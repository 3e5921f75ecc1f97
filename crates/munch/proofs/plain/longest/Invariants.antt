use Rattle.std.proofs.Common.{◌≡◌, ◌<◌, take}
use Rattle.munch.specs.Munch.{state_at}
use Rattle.munch.specs.Plain.{TellsLongest}
use Rattle.munch.proofs.plain.longest.Given as goal

abbrev pub invariant-loop-i : goal.invariant-loop-i
invariant-loop-i g l =
    let table = g.T.RuleTable.meaning l.table in
    (l.state ≡ state_at table l.bytes l.i) × (l.state < table.states) × TellsLongest table (take l.i l.bytes) l.best
