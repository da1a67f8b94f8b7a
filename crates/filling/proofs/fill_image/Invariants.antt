use Rattle.filling.proofs.Laws.{Fills}
use Rattle.filling.proofs.fill_image.Given as goal

abbrev pub invariant-loop-j : goal.invariant-loop-j
invariant-loop-j l = Fills l.image l.attrs l.initial.filled l.filled l.j
