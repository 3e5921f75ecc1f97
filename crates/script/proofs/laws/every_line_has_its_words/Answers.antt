use Rattle.script.proofs.Standing.{cuts}
use Rattle.script.proofs.laws.every_line_has_its_words.Goals as goal

pub returns : goal.returns
returns c = cuts
