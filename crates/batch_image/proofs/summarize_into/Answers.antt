-- `batch_image::summarize_into` meets its contract: turned away, or counted.
use Rattle.std.proofs.lemmas.Result.{err_from_is_err_and}
use Rattle.batch_image.proofs.Laws.{summed-refused}
use Rattle.batch_image.proofs.summarize_into.Goals as goal

pub returns-in_err-image : goal.returns-in_err-image
returns-in_err-image c = let p = err_from_is_err_and c.from_residual.result c.from_residual.ensures.1 in rw (p.1, p.2) (summed-refused _ c.in_err-image.ensures)

pub returns : goal.returns
returns c = rw c.in_ok-image.ensures.0 at c.run_accepted.ensures
