use Rattle.tables.proofs.Closing.{share_tells_rightly}
use Rattle.tables.proofs.laws.share_table_tells_rightly.Goals as goal

pub returns : goal.returns
returns c = share_tells_rightly
