use Rattle.munch.proofs.Rounding.{rounds}
use Rattle.munch.proofs.reach_laws.endless_chains_come_round.Goals as goal

pub returns : goal.returns
returns c = rounds
