-- The written kinds are the rule's: one test, computed over all 256.
use Rattle.std.proofs.Common.{◌<◌, rules}
use Rattle.tables.specs.Share.{kind_of, same}
use Rattle.tables.specs.Computed.{by_rule}
use Rattle.tables.proofs.Telling.{same_is}
use Rattle.tables.proofs.kinds.KindFromU8.from.Goals as goal

pub returns : goal.returns
returns c = let byte : c.args.byte < 256 = search rules in search (by_rule same same_is kind_of, rules)
