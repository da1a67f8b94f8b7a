-- `widened` of a byte: the same digits, three at most.
use Rattle.std.proofs.Common.{arith}
use Rattle.decimal.proofs.Decimal.{decimal-wide, decimal-byte}
use Rattle.decimal.proofs.U8Number.widened.Goals as goal

pub returns-clause-same : goal.returns-clause-same
returns-clause-same c = grind (arith, decimal-wide)

pub returns-clause-few : goal.returns-clause-few
returns-clause-few c = grind (arith, decimal-byte)
