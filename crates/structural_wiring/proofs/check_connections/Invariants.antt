-- `structural_wiring::check_connections` meets its contract: a connection a turn.
use Rattle.oce_model.specs.Model.{model_of, connection}
use Rattle.oce_diag.specs.Reporting.{Turns}
use Rattle.structural.specs.Structural.{connection_faults}
use Rattle.structural_wiring.specs.PerRecord.{most_connection_faults}
use Rattle.structural_wiring.proofs.check_connections.Given as goal

abbrev pub invariant-loop-k : goal.invariant-loop-k
invariant-loop-k l = Turns (λ k. connection_faults (model_of l.image) k (connection (model_of l.image) k)) most_connection_faults l.initial.report l.report l.k
