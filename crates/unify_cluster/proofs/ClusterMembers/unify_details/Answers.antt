-- `unify_cluster::ClusterMembers::unify_details` meets its contract.
use Rattle.std.proofs.Common.{refl}
use Rattle.unify.specs.Details.{unified_details}
use Rattle.unify_cluster.proofs.Laws.{turns-start, turns-next, turns-slots, turns-puts}
use Rattle.unify_cluster.proofs.ClusterMembers.unify_details.Goals as goal

pub loop-detail-init : goal.loop-detail-init
loop-detail-init c = turns-start c.requires.0

pub loop-detail-preserved : goal.loop-detail-preserved
unfolding unified_details
loop-detail-preserved c = turns-next c.loop-detail.invariant refl c.unify_detail.ensures.filled c.unify_detail.ensures.reported c.loop-detail-test.true

pub returns-clause-filled : goal.returns-clause-filled
returns-clause-filled c = turns-slots c.loop-detail.invariant c.loop-detail-test.false

pub returns-clause-reported : goal.returns-clause-reported
returns-clause-reported c = turns-puts c.loop-detail.invariant c.loop-detail-test.false c.loop-detail.auto.detail-index-end
