-- `batch_check::measure` meets its contract: the images passed are kept, and their bytes counted.
use lib.ListN.{length}
use Rattle.batch_check.proofs.Passes.{Measuring}
use Rattle.batch_check.proofs.measure.Given as goal

abbrev pub invariant-loop-f : goal.invariant-loop-f
invariant-loop-f l = Measuring l.batch l.f-iterator l.needed l.kept (length l.initial.early) l.early
