-- `image_framing::frame` meets its contract: what is found is what was found before, then what the rest holds.
use Rattle.image_framing.proofs.Finds.{Framing}
use Rattle.image_framing.proofs.frame.Given as goal

abbrev pub invariant-loop-f : goal.invariant-loop-f
invariant-loop-f l = Framing l.s l.f-iterator l.bad l.end
