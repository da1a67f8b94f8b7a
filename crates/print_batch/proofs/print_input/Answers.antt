-- Where nothing could be read: why, and the output stays.
use Rattle.std.proofs.Common.{rules}
use Rattle.print_batch.proofs.Reading.{nothing_read}
use Rattle.print_batch.proofs.print_input.Goals as goal

pub returns-in-Err-clause-ending : goal.returns-in-Err-clause-ending
returns-in-Err-clause-ending g c = search (nothing_read, rules)
