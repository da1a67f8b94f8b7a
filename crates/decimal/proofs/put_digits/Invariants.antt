-- The digits behind the rest are found; the rest gets smaller.
use Rattle.decimal.proofs.Decimal.{Found}
use Rattle.decimal.proofs.put_digits.Given as goal

abbrev pub invariant-loop-rest : goal.invariant-loop-rest
invariant-loop-rest g l = Found l.n l.rest l.at l.digits

abbrev pub decreases-loop-rest : goal.decreases-loop-rest
decreases-loop-rest g l = l.rest
