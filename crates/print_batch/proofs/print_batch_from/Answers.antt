-- The lengths of its buffers, which are too large to be counted out.
use Rattle.std.proofs.Common.{ℕ, ◌+◌, arith, sym}
use Rattle.std.proofs.Math.ListN.{length-replicate}
use Rattle.print_batch.specs.Reading.{longest_batch, read_output}
use Rattle.print_batch.proofs.Reading.{room-for-more, lent-room}
use Rattle.print_batch.proofs.print_batch_from.Goals as goal

pub slice_bounds-read_and_print-end : goal.slice_bounds-read_and_print-end
slice_bounds-read_and_print-end g c = sym (length-replicate {A = ℕ} (longest_batch + 1) 0)

pub slice_bounds-read_and_print-end-2 : goal.slice_bounds-read_and_print-end-2
slice_bounds-read_and_print-end-2 g c = sym (length-replicate {A = ℕ} read_output 0)

pub read_and_print-requires : goal.read_and_print-requires
read_and_print-requires g c = room-for-more longest_batch (longest_batch + 1) (omega arith)

pub returns : goal.returns
returns g c = lent-room _ _ _ _ _ read_output c.read_and_print.ensures.printed
