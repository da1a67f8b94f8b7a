-- `batch_framing::find_fault` meets its contract: none of the fields passed is at fault.
use Rattle.image_framing.proofs.Finds.{Searching, Stopping}
use Rattle.batch.specs.Fields.{bad_field}
use Rattle.batch_framing.proofs.find_fault.Given as goal

abbrev pub invariant-loop-f : goal.invariant-loop-f
invariant-loop-f l = Searching bad_field l.batch l.f-iterator × Stopping l.batch l.f-iterator l.end
