-- What was read is printed.
use Rattle.print_batch.proofs.Reading.{printed-read}
use Rattle.print_batch.proofs.read_and_print.Goals as goal

pub returns-clause-ending : goal.returns-clause-ending
returns-clause-ending g c = record { read = c.read_from-read.result; left = c.print_input.ensures.ending }

pub returns-clause-printed : goal.returns-clause-printed
returns-clause-printed g c = printed-read _ _ _ _ _ _ _ c.read_from-read.ensures.bytes c.print_input.ensures.printed c.print_input.ensures.ending
