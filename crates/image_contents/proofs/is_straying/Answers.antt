-- `is_straying` meets its contract: the numbers taken together.
use borrow.Author.Rules.{rules}
use Rattle.image_contents.proofs.Strays.{strays-more, strays-one}
use Rattle.image_contents.proofs.is_straying.Goals as goal

pub returns : goal.returns
returns c = search (strays-more, strays-one, rules)
