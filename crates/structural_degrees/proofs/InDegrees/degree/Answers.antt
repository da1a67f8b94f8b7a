-- What stands at an id.
use Rattle.std.proofs.Common.{rules}
use Rattle.structural_degrees.proofs.Laws.{degree-at}
use Rattle.structural_degrees.proofs.InDegrees.degree.Goals as goal

pub returns : goal.returns
returns c = rw (← c.self.view_is, ← degree-at c.self.invariant.1 c.self.invariant.0 c.args.id.0) (search rules)
