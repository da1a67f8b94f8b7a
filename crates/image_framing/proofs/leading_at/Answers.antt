-- `image_framing::leading_at` meets its contract: nothing stands past the end, and before it by how many bytes are left.
use borrow.Author.Rules.{rules}
use Rattle.image_framing.proofs.Leads.{leads-past, leads-there}
use Rattle.image_framing.proofs.leading_at.Goals as goal

pub returns-then-s-at : goal.returns-then-s-at
returns-then-s-at c = search (leads-past, rules)

pub returns : goal.returns
returns c = search (leads-there, rules)
