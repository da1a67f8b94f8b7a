-- `is_faulty` meets its contract: its length, then the rest.
use borrow.Author.Rules.{rules}
use Rattle.image_sieve.proofs.Laws.{long, all-are}
use Rattle.image_sieve.proofs.Sieve.is_faulty.Goals as goal

pub returns-then-bad_length : goal.returns-then-bad_length
returns-then-bad_length c = search (long, rules)

pub returns-else-bad_length : goal.returns-else-bad_length
returns-else-bad_length c = search (all-are, rules)
