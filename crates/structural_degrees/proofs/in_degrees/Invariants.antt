-- The portions before the place are counted.
use Rattle.std.proofs.Common.{◌+◌, ◌-◌, ◌≡◌, min, length}
use Rattle.oce_model.specs.Model.{model_of, connection_count}
use Rattle.structural_degrees.specs.Counted.{portion}
use Rattle.structural_degrees.specs.Columns.{Counts}
use Rattle.structural_degrees.proofs.in_degrees.Given as goal

abbrev pub invariant-loop-first : goal.invariant-loop-first
invariant-loop-first l = Counts (model_of l.image) (min l.first (connection_count (model_of l.image))) l.degrees × (length l.degrees ≡ length l.fn.degrees)

abbrev pub decreases-loop-first : goal.decreases-loop-first
decreases-loop-first l = connection_count (model_of l.image) + portion - l.first
