-- `order_of` meets its contract: the library compares byte by byte.
use Rattle.std.proofs.Common.{◌∙◌}
use Rattle.image_texts.proofs.Bytewise.{cmp-order}
use Rattle.image_texts.proofs.order_of.Goals as goal

pub returns : goal.returns
returns c = c.cmp.ensures ∙ cmp-order c.args.a.now c.args.b.now
