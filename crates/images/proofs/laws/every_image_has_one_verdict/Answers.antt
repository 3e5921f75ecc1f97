use Rattle.images.proofs.Verdicts.{verdicts}
use Rattle.images.proofs.laws.every_image_has_one_verdict.Goals as goal

pub returns : goal.returns
returns c = verdicts
