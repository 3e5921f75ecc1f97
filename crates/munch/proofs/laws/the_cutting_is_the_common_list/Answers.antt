use Rattle.munch.proofs.Settling.{cut_law}
use Rattle.munch.proofs.laws.the_cutting_is_the_common_list.Goals as goal

pub returns : goal.returns
returns c = cut_law
