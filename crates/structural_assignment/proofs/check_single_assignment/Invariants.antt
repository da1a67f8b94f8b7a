-- `structural_assignment::check_single_assignment` meets its contract: a connector a turn.
use Rattle.oce_diag.specs.Reporting.{Turns}
use Rattle.structural.specs.Structural.{assignment_faults}
use Rattle.oce_model.specs.Model.{model_of, connector}
use Rattle.structural_assignment.specs.PerRecord.{most_assignment_faults}
use Rattle.structural_assignment.proofs.check_single_assignment.Given as goal

abbrev pub invariant-loop-i : goal.invariant-loop-i
invariant-loop-i l = Turns (λ i. assignment_faults (model_of l.drivers) i (connector (model_of l.drivers) i)) most_assignment_faults l.initial.report l.report l.i
