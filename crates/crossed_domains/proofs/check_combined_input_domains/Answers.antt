-- Where no connector is external nothing is put.
use borrow.Author.Rules.{rules}
use Rattle.crossed_domains.proofs.Laws.{quiet-puts}
use Rattle.crossed_domains.proofs.check_combined_input_domains.Goals as goal

pub returns-then-not-some_external : goal.returns-then-not-some_external
returns-then-not-some_external c = search (quiet-puts, rules)
