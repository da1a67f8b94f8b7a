-- None is listed yet; an id with a mark, or one without; then all are listed.
use Rattle.std.proofs.Common.{◌<◌, false, length, refl, arith}
use Rattle.oce_model.specs.Model.{model_of}
use Rattle.structural_externals.proofs.Laws.{lists-none, lists-hit, lists-miss, lists-all}
use Rattle.structural_externals.proofs.Externals.list.Goals as goal
use Rattle.structural_externals.proofs.Externals.list.Goals.{then-id-marks, else-id-marks}

pub loop-k-init : goal.loop-k-init
loop-k-init c = lists-none (λ i l. c.fill.ensures.clones i false (omega (arith, c.fill.ensures.len)) refl) c.requires

pub loop-k-preserved : goal.loop-k-preserved
loop-k-preserved c =
    let inside : c.loop-k.k < length (model_of c.args.image.now).external_inputs = omega arith in
    elim c.if-id-marks.branch [
      | then-id-marks w ↦ rw (w.marks-is, w.others-is, w.n-is) (lists-hit c.loop-k.invariant inside c.external_input-id.ensures (omega arith))
      | else-id-marks w ↦ rw (w.marks-is, w.others-is, w.n-is) (lists-miss c.loop-k.invariant inside c.external_input-id.ensures (omega arith))
    ]

pub invariant_of-result : goal.invariant_of-result
invariant_of-result c = lists-all c.loop-k.invariant _ (omega arith) c.sort.ensures
