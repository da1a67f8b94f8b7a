-- `batch_check::check_any` meets its contract: by what the search finds.
use borrow.Author.Rules.{rules}
use Rattle.batch_framing.proofs.Finds.{found-clean}
use Rattle.batch_check.proofs.Calls.{called-fault}
use Rattle.batch_check.proofs.check_any.Goals as goal

pub check_images-requires : goal.check_images-requires
check_images-requires c = search (found-clean, rules)

pub returns-in-Some : goal.returns-in-Some
returns-in-Some c = search (called-fault, rules)
