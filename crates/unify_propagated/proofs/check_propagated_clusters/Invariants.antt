-- `unify_propagated::check_propagated_clusters` meets its contract.
use Rattle.oce_diag.specs.Reporting.{Turns}
use Rattle.oce_model.specs.Model.{model_of}
use Rattle.unify.specs.Unify.{propagated_faults}
use Rattle.unify_propagated.proofs.check_propagated_clusters.Given as goal

abbrev pub invariant-loop-r : goal.invariant-loop-r
invariant-loop-r l = Turns (propagated_faults (model_of l.links) l.slots) 1 l.initial.report l.report l.r
