use Rattle.std.proofs.Common.{false}
use Rattle.graphs.proofs.Lists.{everywhere}
use Rattle.graphs.proofs.nodes.NodeSet.empty.Goals as goal

pub returns : goal.returns
returns c = everywhere 128 false
