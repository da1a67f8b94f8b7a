-- `unify_cluster::cluster` meets its contract.
use Rattle.std.proofs.Common.{refl, arith}
use Rattle.oce_model.specs.Model.{model_of}
use Rattle.unify.specs.Details.{unified_details}
use Rattle.unify_cluster.proofs.Laws.{stands-seen, stands-details, cluster-kept, cluster-silent, cluster-all}
use Rattle.unify_cluster.proofs.cluster.Goals as goal

pub unify_details-requires : goal.unify_details-requires
unify_details-requires c = (stands-seen c.seen_in-seen.ensures refl refl refl c.requires.0, omega arith)

pub warn_display_unit_divergence-requires : goal.warn_display_unit_divergence-requires
warn_display_unit_divergence-requires c = (
  rw c.unify_details.ensures.filled (stands-details unified_details c.args.slots.now (stands-seen c.seen_in-seen.ensures refl refl refl c.requires.0)),
  omega (arith, c.unify_details.ensures.reported.few),
)

pub returns-then-not-is_empty-clause-reported : goal.returns-then-not-is_empty-clause-reported
returns-then-not-is_empty-clause-reported c =
    cluster-all (model_of c.args.image.now) c.args.root.0 c.args.members.now c.args.slots.now c.unify_details.ensures.filled c.unify_details.ensures.reported c.warn_display_unit_divergence.ensures

pub returns-else-not-is_empty-clause-filled : goal.returns-else-not-is_empty-clause-filled
returns-else-not-is_empty-clause-filled c = cluster-kept c.seen_in-seen.ensures c.is_empty.ensures c.if-not-is_empty.false (model_of c.args.image.now)

pub returns-else-not-is_empty-clause-reported : goal.returns-else-not-is_empty-clause-reported
returns-else-not-is_empty-clause-reported c = cluster-silent c.seen_in-seen.ensures c.is_empty.ensures c.if-not-is_empty.false (model_of c.args.image.now) c.args.root.0
