use Rattle.munch.proofs.Later.{ever_later}
use Rattle.munch.proofs.reach_laws.endless_words_are_ever_later.Goals as goal

pub returns : goal.returns
returns c = ever_later
