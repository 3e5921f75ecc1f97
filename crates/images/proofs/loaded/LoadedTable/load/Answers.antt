use Rattle.std.proofs.lemmas.Result.{err_from_is_err_and}
use Rattle.std.proofs.lemmas.Bool.{false≢true}
use Rattle.images.proofs.Verdicts.{verdicts}
use Rattle.images.proofs.loaded.LoadedTable.load.Goals as goal

pub returns-in_err-size-clause-exact : goal.returns-in_err-size-clause-exact
returns-in_err-size-clause-exact c =
    let p = err_from_is_err_and c.from_residual.result c.from_residual.ensures.1 in
    rw p.1 (λ e. absurd (false≢true e), λ w. absurd ((verdicts _).not_both w.0 _ w.1 c.in_err-size.ensures))
