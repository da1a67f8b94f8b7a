-- `batch_check::write_output` meets its contract: a copy, or a second pass.
use borrow.Author.Rules.{rules}
use Rattle.batch_check.proofs.Calls.{output-copied}
use Rattle.batch_check.proofs.write_output.Goals as goal

pub returns-then-needed-early : goal.returns-then-needed-early
returns-then-needed-early c = search (output-copied, rules)
