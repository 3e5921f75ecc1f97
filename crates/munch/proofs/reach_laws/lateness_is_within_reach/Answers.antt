use Rattle.munch.proofs.Lateness.{within_reach}
use Rattle.munch.proofs.reach_laws.lateness_is_within_reach.Goals as goal

pub returns : goal.returns
returns c = within_reach
