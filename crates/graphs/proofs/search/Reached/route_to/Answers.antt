use Rattle.std.proofs.Common.{◌≡◌, ◌+◌, ◌-◌, ◌≤◌, is_some, sym, refl, ap, ◌∙◌, subst, arith}
use Rattle.std.proofs.lemmas.List.{length-set, length-take-le}
use Rattle.graphs.specs.Arrivals.{arrival_steps}
use Rattle.graphs.proofs.Routing.{Backs, back_more, back_none}
use Rattle.graphs.proofs.search.Reached.route_to.Goals as goal

pub loop-i-init : goal.loop-i-init
loop-i-init c =
    let found = c.args.self.now in
    let last = c.in_ok-last.last in
    let is = sym c.in_ok-last.ensures in
    let few : last.steps ≤ 128 = omega (arith, ap arrival_steps is, found.few c.args.node) in
    (back_none found.arrivals c.args.node last.steps _ refl few last is refl, refl)

pub loop-i-preserved : goal.loop-i-preserved
loop-i-preserved c =
    let found = c.args.self.now in
    let last = c.in_ok-last.last in
    let few : last.steps ≤ 128 = omega (arith, ap arrival_steps (sym c.in_ok-last.ensures), found.few c.args.node) in
    let one_more : c.loop-i.i ≡ c.loop-i.i - 1 + 1 = omega arith in
    let here = c.in_ok-arrival in (
      back_more found.arrivals c.args.node last.steps c.loop-i.steps c.loop-i.invariant.1 few (c.loop-i.i - 1) c.loop-i.at here.arrival (omega arith) (sym here.ensures) (subst (λ k. Backs found.arrivals c.args.node last.steps c.loop-i.steps k c.loop-i.at) one_more c.loop-i.invariant.0),
      length-set c.loop-i.steps (c.loop-i.i - 1) _ ∙ c.loop-i.invariant.1,
    )

pub returns : goal.returns
returns c g given traced =
    let last = c.in_ok-last.last in
    let is = sym c.in_ok-last.ensures in
    let none : c.loop-i.i ≡ 0 = omega arith in
    let long = length-take-le last.steps c.loop-i.steps (omega (arith, c.loop-i.invariant.1, ap arrival_steps is, c.args.self.now.few c.args.node)) in
    let all = subst (λ k. Backs c.args.self.now.arrivals c.args.node last.steps c.loop-i.steps k c.loop-i.at) none c.loop-i.invariant.0 g given traced in (
      ap is_some is,
      record {
        starts = all.ends refl;
        some = omega (arith, long, (traced.back c.args.node last is).some);
        few = omega (arith, long, ap arrival_steps is, traced.few c.args.node);
        leads = all.leads;
      },
    )
