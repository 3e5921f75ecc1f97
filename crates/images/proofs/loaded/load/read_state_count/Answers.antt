use Rattle.std.proofs.Common.{refl}
use Rattle.images.specs.Image.{state_count}
use Rattle.images.proofs.Judged.{cut_short}
use Rattle.images.proofs.loaded.load.read_state_count.Goals as goal

pub returns-in_err-count : goal.returns-in_err-count
returns-in_err-count c =
    let early = c.in_err-count.ensures in
    cut_short _ state_count 258 c.requires refl _ _ _ _ refl early.0 early.1 c.from_residual.ensures.1
