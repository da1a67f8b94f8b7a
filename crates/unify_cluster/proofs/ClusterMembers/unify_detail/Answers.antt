-- `unify_cluster::ClusterMembers::unify_detail` meets its contract.
use Rattle.std.proofs.Common.{◌∙◌}
use Rattle.oce_model.specs.Model.{model_of}
use Rattle.unify_cluster.proofs.Laws.{filled-skip, reported-skip, reported-none, reported-conflict}
use Rattle.unify_cluster.proofs.ClusterMembers.unify_detail.Goals as goal
use Rattle.unify_cluster.proofs.ClusterMembers.unify_detail.Goals.{else-shows-via-then-shows+else-is_err, else-shows-via-else-shows}

pub returns-then-is_err-clause-reported : goal.returns-then-is_err-clause-reported
returns-then-is_err-clause-reported c =
    reported-conflict (model_of c.args.self.now.image.now) c.args.self.now.root.0 c.args.self.now.members.now c.args.slots.now c.args.detail (c.is_err.ensures.value ∙ c.decide_and_apply.ensures.told)
    c.put.ensures c.error.ensures c.number.ensures c.conflict_code.ensures c.subject.ensures c.if-is_err.true

pub returns-else-shows-clause-filled : goal.returns-else-shows-clause-filled
returns-else-shows-clause-filled c =
    elim c.else-shows.branch [
      | else-shows-via-then-shows+else-is_err w ↦ w.slots-is ∙ w.decide_and_apply.ensures.filled
      | else-shows-via-else-shows w ↦ w.slots-is ∙ filled-skip c.requires.0 c.args.detail c.shows.ensures w.if-shows.false
    ]

pub returns-else-shows-clause-reported : goal.returns-else-shows-clause-reported
returns-else-shows-clause-reported c =
    elim c.else-shows.branch [
      | else-shows-via-then-shows+else-is_err w ↦
          reported-none (model_of c.args.self.now.image.now) c.args.self.now.root.0 c.args.self.now.members.now c.args.slots.now c.args.detail (w.is_err.ensures.value ∙ w.decide_and_apply.ensures.told) w.if-is_err.false
      | else-shows-via-else-shows w ↦ reported-skip c.requires.0 c.args.detail c.shows.ensures w.if-shows.false
    ]
