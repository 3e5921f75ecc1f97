use Rattle.munch.proofs.Examined.{tail_right}
use Rattle.munch.proofs.examples.tail_table_tells_rightly.Goals as goal

pub returns : goal.returns
returns c = tail_right
