use Rattle.munch.proofs.Beginning.{splitter_law}
use Rattle.munch.proofs.laws.every_right_splitter_begins_the_common_list.Goals as goal

pub returns : goal.returns
returns c = splitter_law
