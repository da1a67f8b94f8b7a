-- `batch_check::check_batch` meets its contract: the three equations.
use borrow.Author.Rules.{rules}
use Rattle.batch_check.proofs.Calls.{called-numbers}
use Rattle.batch_check.proofs.check_batch.Goals as goal

pub returns : goal.returns
returns c = search (called-numbers, rules)
