use Rattle.std.proofs.Common.{subst}
use Rattle.charts.specs.Slots.{forward}
use Rattle.graphs.specs.Nodes.{has}
use Rattle.graphs.specs.Searching.{Searched}
use Rattle.session.proofs.Finding.{path_is}
use Rattle.session.proofs.answer.path.Goals as goal

pub returns : goal.returns
returns g c =
    let meaning = g.T.RuleTable.meaning in
    let table = c.args.table.now in
    let starts = c.insert.new.self in
    let found = subst (λ t. Searched (forward (meaning t)) (has starts) c.search.result) c.new.ensures c.search.ensures in
    path_is (meaning table) c.args.from c.args.to c.empty-starts.result starts c.search.result c.route_to.result (g.met.T.RuleTable.sound table) c.empty-starts.ensures c.insert.ensures found (c.route_to.ensures (forward (meaning table)) (has starts) found.traced)
