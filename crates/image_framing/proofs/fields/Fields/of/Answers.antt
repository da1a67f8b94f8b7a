-- `Fields::of` meets its contract: from offset 0 on, with none before.
use borrow.Author.Rules.{rules}
use Rattle.image_framing.proofs.Rests.{rest-all}
use Rattle.image_framing.proofs.fields.Fields.of.Goals as goal

pub returns : goal.returns
returns c = search (rest-all, rules)
