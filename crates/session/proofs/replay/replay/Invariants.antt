use Rattle.std.proofs.Common.{length}
use Rattle.std.specs.Iterator.Adapters.{enumerate_source}
use Rattle.script.specs.declared.request.QueueKind.TheVariants.{Ring}
use Rattle.session.specs.Replays.{Leads, stage_of}
use Rattle.session.specs.Sessions.{fresh}
use Rattle.session.proofs.replay.replay.Given as goal

abbrev pub invariant-loop-player : goal.invariant-loop-player
invariant-loop-player l =
    Leads (stage_of l.initial.player (fresh (record { kind = Ring; length = 0 }))) (stage_of l.player (fresh l.making))

abbrev pub decreases-loop-player : goal.decreases-loop-player
decreases-loop-player l = length (enumerate_source l.player.lines)
