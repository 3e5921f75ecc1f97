use Rattle.std.proofs.Common.{arith}
use Rattle.std.proofs.lemmas.Grind.{common_steps}
use Rattle.queues.proofs.Moving.{moved}
use Rattle.queues.proofs.straight.StraightQueue.drop_front.Goals as goal

pub returns : goal.returns
returns g c = grind (arith, common_steps, moved)
