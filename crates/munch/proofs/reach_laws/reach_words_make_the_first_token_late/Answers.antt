use Rattle.munch.proofs.Witnessing.{reach_shown}
use Rattle.munch.proofs.reach_laws.reach_words_make_the_first_token_late.Goals as goal

pub returns : goal.returns
returns c = reach_shown
