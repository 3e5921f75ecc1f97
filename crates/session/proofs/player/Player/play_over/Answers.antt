use Rattle.std.proofs.Common.{sym, ap, length, ◌∙◌, arith}
use Rattle.session.proofs.Playing.{turn, makes_one, makes_none}
use Rattle.session.proofs.player.Player.play_over.Goals as goal

pub returns-then-is_some : goal.returns-then-is_some
returns-then-is_some g c =
    let inv = c.loop-played.invariant in
    let step = c.in-Some.ensures.steps in
    let line = turn _ _ _ _ _ _ _ _ _ _ _ _ _ _ _ _ inv.0 step.0 step.1 step.2 c.in_ok-outcome.ensures c.making-making.ensures (c.as_str.ensures.value ∙ c.in_ok-text.ensures) c.in_ok-push_str.ensures.bytes in
    makes_one _ _ _ _ _ _ _ (sym c.is_some.ensures ∙ c.if-is_some.true) line (omega (arith, inv.1, ap length step.0))

pub loop-played-preserved : goal.loop-played-preserved
loop-played-preserved g c =
    let inv = c.loop-played.invariant in
    let step = c.in-Some.ensures.steps in
    let line = turn _ _ _ _ _ _ _ _ _ _ _ _ _ _ _ _ inv.0 step.0 step.1 step.2 c.in_ok-outcome.ensures c.making-making.ensures (c.as_str.ensures.value ∙ c.in_ok-text.ensures) c.in_ok-push_str.ensures.bytes in
    (makes_none _ _ _ _ _ _ _ (sym c.is_some.ensures ∙ c.if-is_some.false) line, omega (arith, inv.1, ap length step.0))
