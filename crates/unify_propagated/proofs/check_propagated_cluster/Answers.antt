-- `unify_propagated::check_propagated_cluster` meets its contract.
use Rattle.oce_model.specs.Attributes.{no_attrs}
use Rattle.oce_model.specs.Model.{model_of}
use Rattle.unify.specs.Slots.{slot}
use Rattle.unify_propagated.proofs.Laws.{test-no-root, test-same, test-crossed}
use Rattle.unify_propagated.proofs.check_propagated_cluster.Goals as goal
use Rattle.unify_propagated.proofs.check_propagated_cluster.Goals.{else-is_root-via-then-is_root+else-is_crossed, else-is_root-via-else-is_root}

pub returns-then-is_crossed : goal.returns-then-is_crossed
unfolding slot no_attrs
returns-then-is_crossed c =
    let i = c.image-image.ensures in
    test-crossed (model_of c.args.links.now) c.args.slots.now c.args.root.0 c.is_root.ensures c.if-is_root.true (rw i at c.range_of.ensures) c.is_crossed.ensures
    c.put.ensures c.error.ensures (rw i at c.subject.ensures) c.if-is_crossed.true

pub returns-else-is_root : goal.returns-else-is_root
unfolding slot no_attrs
returns-else-is_root c =
    let m = model_of c.args.links.now in
    let σ = c.args.slots.now in
    elim c.else-is_root.branch [
      | else-is_root-via-then-is_root+else-is_crossed w ↦
          test-same m σ c.args.root.0 c.is_root.ensures w.if-is_root.true (rw c.image-image.ensures at w.range_of.ensures) w.is_crossed.ensures w.if-is_crossed.false
      | else-is_root-via-else-is_root w ↦ test-no-root m σ c.args.root.0 c.is_root.ensures w.if-is_root.false
    ]
