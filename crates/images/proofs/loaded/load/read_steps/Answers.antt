use Rattle.std.proofs.Common.{◌+◌, refl, arith}
use Rattle.images.specs.Image.{step_count, step, labels_end}
use Rattle.images.proofs.Judged.{cut_short}
use Rattle.images.proofs.Sections.{step_stands}
use Rattle.images.proofs.loaded.load.read_steps.Goals as goal

pub returns-in_err-count : goal.returns-in_err-count
returns-in_err-count c =
    let early = c.in_err-count.ensures in
    cut_short _ step_count _ c.requires.count refl _ _ _ _ refl early.0 early.1 c.from_residual.ensures.1

pub returns-in_err-byte : goal.returns-in_err-byte
returns-in_err-byte c =
    let early = c.in_err-byte.ensures in
    let inv = c.loop.invariant in
    cut_short _ step (labels_end c.loop.reader.image + 2 + c.loop.counter) inv.reached (step_stands _ _ _ _ _ inv.image c.requires.size (omega arith)) _ _ _ _ inv.image early.0 early.1 c.from_residual-in_err-byte.ensures.1
