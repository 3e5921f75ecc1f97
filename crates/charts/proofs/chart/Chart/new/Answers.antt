use Rattle.std.proofs.Common.{ℕ, Decides, refl, subst}
use Rattle.graphs.specs.Graph.{Reaches}
use Rattle.graphs.specs.Nodes.{has}
use Rattle.graphs.specs.Searching.{reached}
use Rattle.std.proofs.lemmas.Bool.Decides.{Decides-at}
use Rattle.charts.specs.Slots.{backward}
use Rattle.charts.proofs.Opening.{marks_tell}
use Rattle.charts.proofs.chart.Chart.new.Goals as goal

pub returns : goal.returns
returns g c =
    let meaning = g.T.RuleTable.meaning in
    let table = c.args.table in
    let given = has c.accepting-accepting.result in
    let marks = has c.nodes-open.result in
    let found : (s : ℕ) → Decides (marks s) (Reaches (backward (meaning table)) given s) =
    λ s. Decides-at (marks s) (reached c.search.result s) (c.nodes-open.ensures s)
    (subst (λ t. Decides (reached c.search.result s) (Reaches (backward (meaning t)) given s)) c.new.ensures (c.search.ensures.marks s))
    in
    record { same = refl; right = marks_tell (meaning table) (g.met.T.RuleTable.sound table) given marks c.accepting-accepting.ensures found }
