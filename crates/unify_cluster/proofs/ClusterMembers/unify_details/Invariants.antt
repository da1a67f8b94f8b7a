-- `unify_cluster::ClusterMembers::unify_details` meets its contract.
use Rattle.unify_cluster.proofs.Laws.{Turns}
use Rattle.unify_cluster.proofs.ClusterMembers.unify_details.Given as goal

abbrev pub invariant-loop-detail : goal.invariant-loop-detail
invariant-loop-detail l = Turns l.self l.initial.slots l.initial.report l.slots l.report l.detail-index
