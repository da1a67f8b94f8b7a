-- `image_framing::first_fault` meets its contract: none of the fields passed passes the test.
use Rattle.image_framing.proofs.Finds.{Hunting}
use Rattle.image_framing.proofs.first_fault.Given as goal

abbrev pub invariant-loop-f : goal.invariant-loop-f
invariant-loop-f g l = Hunting (goal.F-post g l.test) l.s l.f-iterator
