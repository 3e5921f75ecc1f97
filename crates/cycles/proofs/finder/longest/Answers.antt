use Rattle.std.proofs.Common.{◌≡◌, ◌<◌, List, length, Option, MatchOption, sym, ap, ◌∙◌, subst, arith}
use Rattle.std.proofs.lemmas.List.{length_push}
use Rattle.graphs.specs.Graph.{Leads}
use Rattle.graphs.specs.Routes.{steps_of}
use Rattle.graphs.specs.declared.route.Route.{Route}
use Rattle.graphs.specs.declared.route.Step.{Step}
use Rattle.cycles.proofs.Paths.{ends, further, longest}
use Rattle.cycles.proofs.finder.longest.Goals as goal

pub loop-step-preserved : goal.loop-step-preserved
loop-step-preserved g c =
    let inv = c.loop-step.invariant in
    let steps = c.loop-step.steps.items in
    let x = c.in-Some.step in
    let more = further _ _ c.requires c.tallest-start.result c.loop-step.node steps x inv.0 inv.1 c.in-Some.ensures in
    let now = c.push.ensures.items in (
      subst (λ (l : List Step). Leads (g.G.Graph.meaning c.args.graph.now) c.tallest-start.result l x.to) (sym now) more.0,
      more.1,
      omega (arith, ap length now, length_push steps x, more.2, inv.2),
    )

pub returns : goal.returns
returns g c =
    let inv = c.loop-step.invariant in
    let none = ends _ _ c.requires c.loop-step.node inv.1 c.in_default.ensures in
    let steps = c.loop-step.steps.items in
    let made : (c.unwrap.result.start ≡ c.tallest-start.result) × (steps_of c.unwrap.result ≡ c.as_slice.result.now) = subst (λ (o : Option Route). MatchOption o (128 < length c.as_slice.result.now) (λ p. (p.start ≡ c.tallest-start.result) × (steps_of p ≡ c.as_slice.result.now))) c.unwrap.ensures c.new.ensures in
    longest _ _ c.requires c.tallest-start.result c.loop-step.node steps c.unwrap.result c.tallest-start.ensures.inside c.tallest-start.ensures.most inv.0 (omega (arith, none, inv.2)) made.0 (made.1 ∙ c.as_slice.ensures.value)
