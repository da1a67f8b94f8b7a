-- `unify_links::link` meets its contract.
use Rattle.std.proofs.Common.{refl}
use Rattle.unify_links.proofs.Laws.{head-there, link-skip, link-push}
use Rattle.unify_links.proofs.link.Goals as goal

pub bounds-head-root : goal.bounds-head-root
bounds-head-root c = head-there c.requires.1 c.root_of.ensures c.in-Some.is c.requires.0

pub returns-in-Some : goal.returns-in-Some
returns-in-Some c = rw (c.replace.ensures.value, c.replace.ensures.after) (link-push c.requires.1 c.root_of.ensures c.in-Some.is c.requires.0 refl refl)

pub returns-in_default : goal.returns-in_default
returns-in_default c = link-skip c.requires.1 c.root_of.ensures c.in_default.is
