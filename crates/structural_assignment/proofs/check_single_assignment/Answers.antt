-- A connector a turn.
use Rattle.std.proofs.Common.{arith, ap, ◌∙◌}
use Rattle.oce_model.specs.Model.{model_of, connector_count}
use Rattle.oce_diag.proofs.Reporting.{turns-start, turns-next}
use Rattle.structural_assignment.proofs.Laws.{rule3-put}
use Rattle.structural_assignment.proofs.check_single_assignment.Goals as goal

pub loop-i-init : goal.loop-i-init
loop-i-init c = turns-start

pub loop-i-preserved : goal.loop-i-preserved
loop-i-preserved c = turns-next c.loop-i.invariant c.assignment_faults.ensures

pub returns : goal.returns
returns c = rule3-put _ c.loop-i.invariant (let n = c.connector_count-i-end.ensures.0 ∙ ap (λ s. connector_count (model_of s)) c.image.ensures in omega arith) (let n = ap (λ s. connector_count (model_of s)) c.image.ensures in omega arith)
