use Rattle.munch.proofs.Munching.{munch_law}
use Rattle.munch.proofs.laws.every_word_has_one_munch.Goals as goal

pub returns : goal.returns
returns c = munch_law
