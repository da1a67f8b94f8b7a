-- `batch_check::check_images` meets its contract: refusal 12, or the whole output.
use Rattle.batch_check.proofs.Calls.{called-short, called-written}
use Rattle.batch_check.proofs.check_images.Goals as goal

pub returns-then-output-needed : goal.returns-then-output-needed
returns-then-output-needed c = called-short c.requires c.measure-needed.ensures _ c.if-output-needed.true

pub returns : goal.returns
returns c = called-written c.requires c.measure-needed.ensures _ c.write_output.ensures c.if-output-needed.false
