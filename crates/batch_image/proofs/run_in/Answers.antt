use Rattle.batch_image.proofs.Laws.{summed-counted}
use Rattle.batch_image.proofs.run_in.Goals as goal

pub returns : goal.returns
returns g c = summed-counted c.bytes.ensures.accepted (rw c.of.ensures.image at c.run.ensures)
