use Rattle.std.proofs.Common.{List, sym, ap, ◌∙◌, subst}
use Rattle.graphs.specs.declared.route.Step.{Step}
use Rattle.cycles.specs.declared.search.Followed.{Followed}
use Rattle.cycles.specs.declared.search.Search.{Search}
use Rattle.cycles.specs.Search.{Turned, pushed, turned, with_top}
use Rattle.cycles.proofs.Turning.{last}
use Rattle.cycles.proofs.Turns.{finished_turn, onward_turn, closed}
use Rattle.cycles.proofs.finder.turn.Goals as goal

pub scan-requires-clause-known : goal.scan-requires-clause-known
scan-requires-clause-known g c = (last _ _ _ _ c.requires).knows

pub returns-in-Nowhere : goal.returns-in-Nowhere
returns-in-Nowhere g c = finished_turn _ _ _ c.requires c.in-Nowhere.told c.in-Nowhere.ensures

pub returns-in-On : goal.returns-in-On
returns-in-On g c =
    let edges = g.G.Graph.meaning c.args.graph.now in
    let onward : Step = record { slot = c.in-On.told.slot; to = c.in-On.to } in
    subst (λ (s : Search). Turned edges (with_top c.args.search.now c.args.top) s)
    (sym (c.push-in-On.ensures ∙ ap (λ (xs : List Followed). pushed (record { marks = c.args.search.now.marks; trail = record { items = xs } }) onward) c.push.ensures.items))
    (onward_turn _ _ _ c.requires c.in-On.told c.in-On.to c.in-On.ensures)

pub returns-in-Back : goal.returns-in-Back
returns-in-Back g c =
    closed _ _ _ c.requires c.in-Back.step c.in-Back.place c.in-Back.ensures c.cycle.result c.cycle.ensures.start
    (c.cycle.ensures.steps ∙ ap (λ (xs : List Followed). turned xs c.in-Back.step c.in-Back.place) c.push-in-Back.ensures.items)
