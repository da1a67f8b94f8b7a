-- The connections before the place are read.
use Rattle.oce_model.specs.Model.{model_of}
use Rattle.structural_degrees.specs.Columns.{Reads}
use Rattle.structural_degrees.proofs.read_connections.Given as goal

abbrev pub invariant-loop-k : goal.invariant-loop-k
invariant-loop-k l = Reads (model_of l.image) l.first l.k l.list
