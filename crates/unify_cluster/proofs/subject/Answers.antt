-- `unify_cluster::subject` meets its contract.
use Rattle.unify_cluster.proofs.Laws.{subject-is}
use Rattle.unify_cluster.proofs.subject.Goals as goal

pub returns : goal.returns
returns c = subject-is c.args.image.now c.args.root.0 c.connector-c.ensures.0 c.subject_of.ensures
