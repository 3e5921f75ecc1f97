use Rattle.munch.proofs.Finishing.{points_law}
use Rattle.munch.proofs.laws.tokens_settle_where_walks_close.Goals as goal

pub returns : goal.returns
returns c = points_law
