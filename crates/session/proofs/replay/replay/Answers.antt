use Rattle.std.proofs.Common.{subst}
use Rattle.script.specs.Lines.{lines}
use Rattle.script.specs.declared.request.QueueKind.TheVariants.{Ring}
use Rattle.session.specs.Replays.{Leads, PlayedOver, stage_of}
use Rattle.session.specs.Sessions.{fresh}
use Rattle.session.proofs.Playing.{leads_on, played}
use Rattle.session.proofs.replay.replay.Goals as goal

pub returns : goal.returns
returns c =
    let first = fresh (record { kind = Ring; length = 0 }) in
    let told = c.in_ok-next.ensures in
    let before = stage_of c.loop-player.player (fresh c.loop-player.making) in
    let end = stage_of c.play_new.new.self told.0 in
    let last = subst (PlayedOver before end) c.in_default.is told.1 in
    let start = stage_of c.new-player.result first in
    let whole = subst (λ a. Leads a end) (c.new-player.ensures.first first) (leads_on start before end c.loop-player.invariant last.0) in
    (c.new-player.result.session, c.new-player.ensures.fresh, played c.new-player.result.session first (lines c.args.script.now) end whole last.1)
