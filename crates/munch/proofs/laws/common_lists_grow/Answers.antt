use Rattle.munch.proofs.Beginning.{growth_law}
use Rattle.munch.proofs.laws.common_lists_grow.Goals as goal

pub returns : goal.returns
returns c = growth_law
