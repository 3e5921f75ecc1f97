use Rattle.munch.proofs.Beginning.{nothing_law}
use Rattle.munch.proofs.laws.nothing_is_settled_by_no_byte.Goals as goal

pub returns : goal.returns
returns c = nothing_law
