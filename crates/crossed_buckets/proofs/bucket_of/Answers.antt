-- A text of fewer bytes is read from its start.
use borrow.Author.Rules.{rules}
use Rattle.crossed_buckets.proofs.Laws.{bucket-short, bucket-long}
use Rattle.crossed_buckets.proofs.bucket_of.Goals as goal

pub returns-then-n-lt-TELLING_BYTES : goal.returns-then-n-lt-TELLING_BYTES
returns-then-n-lt-TELLING_BYTES c = search (bucket-short, rules)

pub returns-else-n-lt-TELLING_BYTES : goal.returns-else-n-lt-TELLING_BYTES
returns-else-n-lt-TELLING_BYTES c = search (bucket-long, rules)
