use Rattle.munch.proofs.Examined.{tail_endless}
use Rattle.munch.proofs.examples.tail_table_has_no_reach.Goals as goal

pub returns : goal.returns
returns c = tail_endless
