use Rattle.images.proofs.Judged.{passed_on}
use Rattle.images.proofs.Sections.{labels_cut}
use Rattle.images.proofs.loaded.load.read_labels.Goals as goal

pub returns-in_err-skip : goal.returns-in_err-skip
returns-in_err-skip c =
    let early = c.in_err-skip.ensures in
    passed_on _ _ _ _ c.from_residual.ensures.1 (labels_cut _ _ _ c.requires.size.states c.requires.labels early.0 early.1)
