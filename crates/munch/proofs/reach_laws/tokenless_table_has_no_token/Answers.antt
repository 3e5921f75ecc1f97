use Rattle.munch.proofs.Lateness.{tokenless}
use Rattle.munch.proofs.reach_laws.tokenless_table_has_no_token.Goals as goal

pub returns : goal.returns
returns c = tokenless
