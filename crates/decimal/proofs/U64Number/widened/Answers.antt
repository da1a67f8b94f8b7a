-- `widened` of a number of 64 bits: twenty digits at most.
use Rattle.decimal.proofs.Decimal.{wide-few}
use Rattle.decimal.proofs.U64Number.widened.Goals as goal

pub returns-clause-few : goal.returns-clause-few
returns-clause-few c = wide-few _
