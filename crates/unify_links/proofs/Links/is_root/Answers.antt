-- `unify_links::Links::is_root` meets its contract.
use Rattle.std.proofs.Common.{◌∙◌}
use Rattle.unify_links.proofs.Laws.{root-headed}
use Rattle.unify_links.proofs.Links.is_root.Goals as goal

pub returns : goal.returns
returns c = c.is_some.ensures ∙ rw (← c.self.view_is) (root-headed _ c.self.invariant c.args.root.0 (rw c.self.view_is c.requires))
