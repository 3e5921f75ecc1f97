use Rattle.munch.proofs.Later.{exact}
use Rattle.munch.proofs.reach_laws.reach_words_are_exactly_late.Goals as goal

pub returns : goal.returns
returns c = exact
