-- The members before x are noted.
use Rattle.oce_model.specs.Model.{model_of}
use Rattle.crossed_buckets.proofs.Laws.{Notes}
use Rattle.crossed_buckets.proofs.note_all.Given as goal

abbrev pub invariant-loop-x : goal.invariant-loop-x
invariant-loop-x l = Notes (model_of l.externals) l.initial.members l.members l.known l.x
