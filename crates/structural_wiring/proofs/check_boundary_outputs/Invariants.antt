-- `structural_wiring::check_boundary_outputs` meets its contract: a boundary output a turn.
use Rattle.oce_model.specs.Model.{model_of, boundary_output}
use Rattle.oce_diag.specs.Reporting.{Turns}
use Rattle.structural.specs.Structural.{output_faults}
use Rattle.structural_wiring.specs.PerRecord.{most_output_faults}
use Rattle.structural_wiring.proofs.check_boundary_outputs.Given as goal

abbrev pub invariant-loop-i : goal.invariant-loop-i
invariant-loop-i l = Turns (λ i. output_faults (model_of l.image) i (boundary_output (model_of l.image) i)) most_output_faults l.initial.report l.report l.i
