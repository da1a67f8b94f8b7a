-- `image_records::connector_at` meets its contract.
use borrow.Author.Rules.{rules}
use Rattle.image_records.proofs.Laws.{connector-parts}
use Rattle.image_records.proofs.connector_at.Goals as goal

pub returns : goal.returns
returns c = search (connector-parts, rules)
