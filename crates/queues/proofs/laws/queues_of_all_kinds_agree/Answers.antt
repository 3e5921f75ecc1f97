use Rattle.queues.proofs.Agreeing.{alike}
use Rattle.queues.proofs.laws.queues_of_all_kinds_agree.Goals as goal

pub returns : goal.returns
returns g c = alike
