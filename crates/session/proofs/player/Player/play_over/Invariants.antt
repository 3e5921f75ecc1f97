use Rattle.std.proofs.Common.{◌≤◌, length}
use Rattle.std.specs.Iterator.Adapters.{enumerate_source}
use Rattle.session.specs.Replays.{Leads, stage_of}
use Rattle.session.proofs.player.Player.play_over.Given as goal

abbrev pub invariant-loop-played : goal.invariant-loop-played
invariant-loop-played g l =
    Leads (stage_of l.initial.self (g.Q.Queue.meaning l.initial.queue)) (stage_of l.self (g.Q.Queue.meaning l.queue))
    × (length (enumerate_source l.self.lines) ≤ length (enumerate_source l.initial.self.lines))

abbrev pub decreases-loop-played : goal.decreases-loop-played
decreases-loop-played g l = length (enumerate_source l.self.lines)
