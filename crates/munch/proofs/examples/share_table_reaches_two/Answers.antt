use Rattle.munch.proofs.Examined.{share_reach}
use Rattle.munch.proofs.examples.share_table_reaches_two.Goals as goal

pub returns : goal.returns
returns c = share_reach
