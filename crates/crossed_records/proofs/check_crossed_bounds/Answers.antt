-- The four parts of the rule, one after the other.
use native.Mathlib.Omega.{arith}
use Rattle.std.proofs.Common.{ap}
use Rattle.oce_diag.proofs.Reporting.{puts-more, turns-start, turns-next, turns-end}
use Rattle.oce_model.specs.Format.{most_connectors, most_boundary_inputs, most_boundary_outputs}
use Rattle.oce_model.specs.Model.{model_of, connector_count, boundary_input_count, boundary_output_count}
use Rattle.crossed_bounds.specs.CrossedBounds.{connector_crossed, input_crossed, output_crossed}
use Rattle.crossed_records.proofs.Laws.{rule5-puts}
use Rattle.crossed_records.proofs.check_crossed_bounds.Goals as goal

pub connectors-init : goal.connectors-init
connectors-init c = turns-start

pub connectors-preserved : goal.connectors-preserved
connectors-preserved c = turns-next c.connectors.invariant (puts-more c.connector_crossed.ensures (omega arith) (ap (λ s. connector_crossed (model_of s) c.connectors.i) c.image-image.ensures))

pub inputs-init : goal.inputs-init
inputs-init c = turns-start

pub inputs-preserved : goal.inputs-preserved
inputs-preserved c = turns-next c.inputs.invariant (puts-more c.input_crossed.ensures (omega arith) (ap (λ s. input_crossed (model_of s) c.inputs.i) c.image-image.ensures))

pub outputs-init : goal.outputs-init
outputs-init c = turns-start

pub outputs-preserved : goal.outputs-preserved
outputs-preserved c = turns-next c.outputs.invariant (puts-more c.output_crossed.ensures (omega arith) (ap (λ s. output_crossed (model_of s) c.outputs.i) c.image-image.ensures))

pub returns : goal.returns
returns c =
    let same = c.image-image.ensures in
    let m = ap (λ s. connector_count (model_of s)) same in
    let i = ap (λ s. boundary_input_count (model_of s)) same in
    let o = ap (λ s. boundary_output_count (model_of s)) same in
    let connectors = c.connector_count-i-end.ensures in
    let inputs = c.boundary_input_count-i-end.ensures in
    let outputs = c.boundary_output_count-i-end.ensures in
    rule5-puts (model_of c.args.externals.now)
    (turns-end c.connectors.invariant most_connectors most_connectors (omega arith) (omega arith) (omega arith))
    (turns-end c.inputs.invariant most_boundary_inputs most_boundary_inputs (omega arith) (omega arith) (omega arith))
    (turns-end c.outputs.invariant most_boundary_outputs most_boundary_outputs (omega arith) (omega arith) (omega arith)) c.check_combined_input_domains.ensures (omega arith)
