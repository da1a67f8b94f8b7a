-- Too long, or what `print_batch` leaves in the output.
use Rattle.std.proofs.Common.{arith}
use Rattle.print_batch.proofs.Reading.{printed-longer, printed-as, mapped}
use Rattle.print_batch.proofs.print_read.Goals as goal

pub returns-then-batch-gt-LONGEST_BATCH-clause-ending : goal.returns-then-batch-gt-LONGEST_BATCH-clause-ending
returns-then-batch-gt-LONGEST_BATCH-clause-ending g c = printed-longer (omega arith)

pub returns-clause-ending : goal.returns-clause-ending
returns-clause-ending g c = rw (mapped _ _ c.map_err.ensures.cases) (printed-as _ c.if-batch-gt-LONGEST_BATCH.false c.print_batch.ensures.output)
