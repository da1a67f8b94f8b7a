-- The parts of the images left begin where those before end, and what is printed of those is written.
use Rattle.print_batch.proofs.Laws.{Printing}
use Rattle.print_batch.proofs.print_images.Given as goal

abbrev pub invariant-loop-f : goal.invariant-loop-f
invariant-loop-f g l = Printing l.batch l.output l.f-iterator l.o (g.W.Write.contents l.fn.to) (g.W.Write.contents l.to)
