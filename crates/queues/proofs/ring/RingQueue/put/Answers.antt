use Rattle.std.proofs.Common.{arith}
use Rattle.std.proofs.lemmas.Grind.{common_steps}
use Rattle.queues.proofs.Turning.{put_items, length_items}
use Rattle.queues.proofs.ring.RingQueue.put.Goals as goal

pub returns : goal.returns
returns g c = grind (arith, common_steps, put_items, length_items)
