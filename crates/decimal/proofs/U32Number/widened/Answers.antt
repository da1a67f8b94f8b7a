-- `widened` of a number of 32 bits: the same digits, ten at most.
use Rattle.std.proofs.Common.{arith}
use Rattle.decimal.proofs.Decimal.{decimal-wide, decimal-few}
use Rattle.decimal.proofs.U32Number.widened.Goals as goal

pub returns-clause-same : goal.returns-clause-same
returns-clause-same c = grind (arith, decimal-wide)

pub returns-clause-few : goal.returns-clause-few
returns-clause-few c = decimal-few _
