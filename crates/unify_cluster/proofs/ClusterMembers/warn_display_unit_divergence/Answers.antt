-- `unify_cluster::ClusterMembers::warn_display_unit_divergence` meets its contract.
use Rattle.oce_model.specs.Model.{model_of}
use Rattle.unify_cluster.proofs.Laws.{display-skip, display-none, display-differ}
use Rattle.unify_cluster.proofs.ClusterMembers.warn_display_unit_divergence.Goals as goal
use Rattle.unify_cluster.proofs.ClusterMembers.warn_display_unit_divergence.Goals.{else-shows-via-then-shows+else-diverges, else-shows-via-else-shows}

pub returns-then-diverges : goal.returns-then-diverges
returns-then-diverges c =
    display-differ (model_of c.args.self.now.image.now) c.args.self.now.root.0 c.args.self.now.members.now c.args.slots.now c.diverges.ensures
    c.put.ensures c.warning.ensures c.number.ensures c.subject.ensures c.if-diverges.true

pub returns-else-shows : goal.returns-else-shows
returns-else-shows c =
    elim c.else-shows.branch [
      | else-shows-via-then-shows+else-diverges w ↦
          display-none (model_of c.args.self.now.image.now) c.args.self.now.root.0 c.args.self.now.members.now c.args.slots.now w.diverges.ensures w.if-diverges.false
      | else-shows-via-else-shows w ↦ display-skip c.requires.0 c.shows.ensures w.if-shows.false
    ]
