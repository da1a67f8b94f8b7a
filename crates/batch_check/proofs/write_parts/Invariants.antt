-- `batch_check::write_parts` meets its contract: what is left, written from o on, makes the whole output.
use Rattle.batch_check.proofs.Passes.{Writing}
use Rattle.batch_check.proofs.write_parts.Given as goal

abbrev pub invariant-loop-f : goal.invariant-loop-f
invariant-loop-f l = Writing l.batch l.kept l.initial.output l.f-iterator l.o l.output
