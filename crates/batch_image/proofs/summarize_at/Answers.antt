-- `batch_image::summarize_at` meets its contract: the report in the part behind the field, then the field.
use borrow.Author.Rules.{rules}
use Rattle.batch_image.proofs.Laws.{placed-short, placed-there}
use Rattle.batch_image.proofs.summarize_at.Goals as goal

pub returns-then-is_none_or : goal.returns-then-is_none_or
returns-then-is_none_or c = search (placed-short, rules)

pub returns : goal.returns
returns c = search (placed-there, rules)
