use Rattle.std.proofs.Common.{ap, ◌∙◌}
use Rattle.session.specs.Replays.{stage_of}
use Rattle.session.specs.Sessions.{kind_letter}
use Rattle.session.proofs.Playing.{fresh_is, over_new}
use Rattle.session.proofs.player.Player.play_new.Goals as goal

pub returns-in-Ring : goal.returns-in-Ring
returns-in-Ring c =
    let new = c.new.ensures ∙ fresh_is _ c.args.making 82 (c.as_mut_slice.ensures.len ∙ c.in_ok-memory.ensures.len) (ap kind_letter c.in-Ring.is) in
    over_new _ _ c.play_over.new.queue _ (stage_of c.args.self.now) (stage_of c.play_over.new.self) new c.play_over.ensures

pub returns : goal.returns
returns c =
    let new = c.new-in-Straight.ensures ∙ fresh_is _ c.args.making 83 (c.as_mut_slice-in-Straight.ensures.len ∙ c.in_ok-memory.ensures.len) (ap kind_letter c.in-Straight.is) in
    over_new _ _ c.play_over-in-Straight.new.queue _ (stage_of c.args.self.now) (stage_of c.play_over-in-Straight.new.self) new c.play_over-in-Straight.ensures
