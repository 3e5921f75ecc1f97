use Rattle.std.proofs.Common.{◌<◌, List, Option, sym, subst, arith}
use Rattle.std.proofs.lemmas.Bool.{both_ways}
use Rattle.graphs.specs.declared.arrival.Arrival.{Arrival}
use Rattle.graphs.specs.Nodes.{has}
use Rattle.graphs.specs.Searching.{Grown}
use Rattle.graphs.proofs.Growing.{grown_none}
use Rattle.graphs.proofs.Lists.{marked_less}
use Rattle.graphs.proofs.Marking.{marks_right}
use Rattle.graphs.proofs.Sets.{added, kept}
use Rattle.graphs.proofs.search.Reached.search.Goals as goal

pub loop-node-init : goal.loop-node-init
loop-node-init g c =
    let edges = g.G.Graph.meaning c.args.graph.now in
    let starts = has c.args.starts.now in (
      subst (λ (xs : List (Option Arrival)). Grown edges starts xs) (sym c.none-reached.ensures) (grown_none edges starts),
      λ a there. absurd (both_ways _ (c.empty-expanded.ensures a) there),
    )

pub loop-node-smaller : goal.loop-node-smaller
loop-node-smaller g c =
    let due = c.in-Some.ensures in
    let before = c.loop-node.expanded in
    let after = c.insert.new.self in
    let node = c.in-Some.node in
    let inside : node < 128 = omega (arith, due.0, c.nodes-nodes.ensures.few) in
    marked_less (has before) (has after) node due.2 (added before node after c.insert.ensures inside) (kept before node after c.insert.ensures) 128 inside

pub returns : goal.returns
returns g c =
    let edges = g.G.Graph.meaning c.args.graph.now in
    let starts = has c.args.starts.now in
    let inv = c.loop-node.invariant in
    record {
      marks = marks_right edges starts c.loop-node.reached.arrivals (λ a inside known. inv.1 a (c.in_default.ensures a (omega (arith, inside, c.nodes-nodes.ensures.value)) known)) inv.0.traced;
      traced = inv.0.traced;
    }
