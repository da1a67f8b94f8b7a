-- `image_framing::whole_at` meets its contract: by whether all of the field lies in the image.
use borrow.Author.Rules.{rules}
use Rattle.image_framing.proofs.Leads.{whole-there, whole-inside}
use Rattle.image_framing.proofs.whole_at.Goals as goal

pub returns-clause-whole : goal.returns-clause-whole
returns-clause-whole c = search (whole-there, rules)

pub returns-clause-inside : goal.returns-clause-inside
returns-clause-inside c = search (whole-inside, rules)
