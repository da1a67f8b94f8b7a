use Rattle.std.proofs.lemmas.Result.{err_from_is_err_and}
use Rattle.oce_validate.proofs.Laws.{turned-away}
use Rattle.oce_validate.proofs.check_any.Goals as goal

pub returns-in_err-image : goal.returns-in_err-image
returns-in_err-image c =
    let p = err_from_is_err_and c.from_residual.result c.from_residual.ensures.1 in
    rw (p.1, p.2) (turned-away _ _ c.in_err-image.ensures)
