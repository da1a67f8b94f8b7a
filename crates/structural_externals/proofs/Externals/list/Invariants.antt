-- The external inputs before the place are listed.
use Rattle.oce_model.specs.Model.{model_of}
use Rattle.structural_externals.proofs.Laws.{Lists}
use Rattle.structural_externals.proofs.Externals.list.Given as goal

abbrev pub invariant-loop-k : goal.invariant-loop-k
invariant-loop-k l = Lists (model_of l.image) l.k l.n l.marks l.others
