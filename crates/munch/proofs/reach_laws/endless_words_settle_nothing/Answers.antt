use Rattle.munch.proofs.Witnessing.{absence_shown}
use Rattle.munch.proofs.reach_laws.endless_words_settle_nothing.Goals as goal

pub returns : goal.returns
returns c = absence_shown
