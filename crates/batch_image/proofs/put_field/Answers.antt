-- `batch_image::put_field` meets its contract.
use borrow.Author.Rules.{rules}
use Rattle.batch_image.proofs.Laws.{field-bytes}
use Rattle.batch_image.proofs.put_field.Goals as goal

pub returns : goal.returns
returns c = search (field-bytes, rules)
