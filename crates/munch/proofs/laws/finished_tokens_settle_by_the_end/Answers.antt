use Rattle.munch.proofs.Finishing.{final_points_law}
use Rattle.munch.proofs.laws.finished_tokens_settle_by_the_end.Goals as goal

pub returns : goal.returns
returns c = final_points_law
