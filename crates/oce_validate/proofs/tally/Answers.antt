use Rattle.oce_validate.proofs.Laws.{tallied, early-written}
use Rattle.oce_validate.proofs.tally.Goals as goal

pub returns : goal.returns
returns c = (tallied c.run.ensures, early-written c.run.ensures)
