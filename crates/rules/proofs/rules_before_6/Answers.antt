use Rattle.std.proofs.Common.{arith}
use Rattle.outcome.specs.Report.{rules_before6}
use Rattle.oce_diag.proofs.Reporting.{puts-then, puts-more}
use Rattle.rules.proofs.rules_before_6.Goals as goal

pub returns : goal.returns
unfolding rules_before6
returns c =
    puts-more (puts-then (puts-then (puts-then (puts-then c.check_arena_ids.ensures c.check_boundary_outputs.ensures) c.check_single_assignment.ensures) c.check_connections.ensures) c.check_crossed_bounds.ensures)
    (omega arith) (rw (c.image-image.ensures, c.externals.ensures))
