-- An id that has no entry.
use Rattle.std.proofs.Common.{◌∙◌, arith}
use Rattle.structural_externals.proofs.Laws.{ids-ascend, ids-tell}
use Rattle.structural_externals.proofs.Externals.contains.Goals as goal

pub is_among-requires : goal.is_among-requires
is_among-requires c = ids-ascend c.self.invariant

pub returns-else-id-self : goal.returns-else-id-self
returns-else-id-self c = c.is_among.ensures ∙ rw (← c.self.view_is) (ids-tell c.self.invariant c.args.id (omega arith))
