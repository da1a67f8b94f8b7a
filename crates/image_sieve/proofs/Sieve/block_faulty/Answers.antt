-- `block_faulty` meets its contract: its length, then the rest.
use borrow.Author.Rules.{rules}
use Rattle.image_sieve.proofs.Laws.{block-short, block-are}
use Rattle.image_sieve.proofs.Sieve.block_faulty.Goals as goal

pub returns-then-f-lt-BLOCK_LENGTH : goal.returns-then-f-lt-BLOCK_LENGTH
returns-then-f-lt-BLOCK_LENGTH c = search (block-short, rules)

pub returns : goal.returns
returns c = search (block-are, rules)
