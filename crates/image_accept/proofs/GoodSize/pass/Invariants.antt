-- `pass` meets its contract: what was passed is told at each turn, and each turn passes a field.
use Rattle.std.proofs.Common.{length}
use Rattle.image_accept.specs.Surveyed.{Passed}
use Rattle.image_accept.proofs.GoodSize.pass.Given as goal

abbrev pub invariant-loop-f : goal.invariant-loop-f
invariant-loop-f g l = Passed g.row.TAG l.self.bytes.now l.fields l.end l.sections l.tables.texts l.tables.blocks

abbrev pub decreases-loop-f : goal.decreases-loop-f
decreases-loop-f g l = length l.fields
