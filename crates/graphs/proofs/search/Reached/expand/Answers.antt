use Rattle.std.proofs.Common.{◌+◌, List, Option, sym, ap, ◌∙◌, subst, arith}
use Rattle.graphs.specs.declared.arrival.Arrival.{Arrival}
use Rattle.graphs.specs.declared.search.Reached.{Reached}
use Rattle.graphs.specs.Nodes.{has}
use Rattle.graphs.proofs.Growing.{Grows, grows_few, grows_old, grows_to}
use Rattle.graphs.proofs.search.Reached.expand.Goals as goal
use Rattle.graphs.proofs.search.Reached.expand.Goals.{in-Some, in_default}

pub note-requires : goal.note-requires
note-requires g c =
    let told = c.in-Some.ensures in
    record {
      inside = omega (arith, told.inside, c.requires.few);
      few = λ new. omega (arith, grows_few (g.G.Graph.meaning c.args.graph.now) (has c.args.starts.now) c.args.node c.loop-slot.slot c.if-contains.steps c.in-Some.to c.args.self.now.arrivals c.loop-slot.self.arrivals c.loop-slot.self.long c.requires.few c.loop-slot.invariant (sym told.value) told.inside new, c.requires.few);
    }

pub loop-slot-preserved : goal.loop-slot-preserved
loop-slot-preserved g c =
    let edges = g.G.Graph.meaning c.args.graph.now in
    let starts = has c.args.starts.now in
    let at = c.loop-slot.slot in
    let before = c.args.self.now.arrivals in
    let xs = c.loop-slot.self.arrivals in
    let few = c.requires.few in
    elim c.match-neighbour.branch [
      | in-Some w ↦
          let told = w.in-Some.ensures in
          subst (λ (ys : List (Option Arrival)). Grows edges starts c.args.node (at + 1) c.if-contains.steps before ys)
          (sym (ap (λ (r : Reached). r.arrivals) w.self-is ∙ w.note.ensures))
          (grows_to edges starts c.args.node at c.if-contains.steps w.in-Some.to before xs c.loop-slot.self.long few c.loop-slot.invariant (sym told.value) told.inside)
      | in_default w ↦
          subst (λ (ys : List (Option Arrival)). Grows edges starts c.args.node (at + 1) c.if-contains.steps before ys)
          (sym (ap (λ (r : Reached). r.arrivals) w.self-is))
          (grows_old edges starts c.args.node at c.if-contains.steps before xs c.loop-slot.invariant (λ b is. absurd (w.in_default.not-Some b (c.neighbour.ensures.value ∙ is))))
    ]
