use Rattle.munch.proofs.Examined.{examples_hold}
use Rattle.munch.proofs.examples.examples_hold.Goals as goal

pub returns : goal.returns
returns c = examples_hold
