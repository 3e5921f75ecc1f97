use Rattle.std.proofs.Common.{refl, arith}
use Rattle.graphs.proofs.Growing.{none_steps}
use Rattle.graphs.proofs.search.Reached.none.Goals as goal

pub invariant_of-result : goal.invariant_of-result
invariant_of-result c = record { long = refl; few = λ k. omega (arith, none_steps k) }
