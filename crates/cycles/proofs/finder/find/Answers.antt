use Rattle.std.proofs.Common.{arith}
use Rattle.cycles.proofs.Begins.{fresh_sound}
use Rattle.cycles.proofs.finder.find.Goals as goal

pub loop-root-init : goal.loop-root-init
loop-root-init g c =
    (fresh_sound _ _ c.new-search.ensures (omega (arith, c.nodes-root-end.ensures.value, c.nodes-root-end.ensures.few)), c.new-search.ensures.trail, λ v less new. omega arith)
