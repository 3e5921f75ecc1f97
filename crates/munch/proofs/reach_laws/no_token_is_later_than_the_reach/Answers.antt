use Rattle.munch.proofs.Later.{no_later}
use Rattle.munch.proofs.reach_laws.no_token_is_later_than_the_reach.Goals as goal

pub returns : goal.returns
returns c = no_later
