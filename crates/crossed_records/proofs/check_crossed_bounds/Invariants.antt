-- Each loop puts what its records give, one by one.
use Rattle.oce_model.specs.Model.{model_of}
use Rattle.oce_diag.specs.Reporting.{Turns}
use Rattle.crossed_bounds.specs.CrossedBounds.{connector_crossed, input_crossed, output_crossed}
use Rattle.crossed_records.proofs.check_crossed_bounds.Given as goal

abbrev pub invariant-connectors : goal.invariant-connectors
invariant-connectors l = Turns (connector_crossed (model_of l.externals)) 1 l.initial.report l.report l.i

abbrev pub invariant-inputs : goal.invariant-inputs
invariant-inputs l = Turns (input_crossed (model_of l.externals)) 1 l.initial.report l.report l.i

abbrev pub invariant-outputs : goal.invariant-outputs
invariant-outputs l = Turns (output_crossed (model_of l.externals)) 1 l.initial.report l.report l.i
