-- An input or an output.
use Rattle.std.proofs.Common.{ap, ◌∙◌}
use Rattle.oce_model.specs.Model.{model_of, connector}
use Rattle.structural.specs.Degrees.{degree, external}
use Rattle.image_records.specs.Records.{connector_read}
use Rattle.structural_assignment.proofs.Laws.{not-assigned, assigned}
use Rattle.structural_assignment.proofs.assignment_faults.Goals as goal

pub returns-then-is_in : goal.returns-then-is_in
returns-then-is_in c =
    let e = c.connector-c.ensures.0 ∙ ap (λ s. connector_read (connector (model_of s) c.args.i.0)) c.image.ensures in
    let id = c.connector-c.result.id.0 in
    assigned _ _ e c.is_in.ensures c.if-is_in.true c.subject_of-subject.ensures
    (c.degree-d.ensures ∙ ap (λ s. degree (model_of s) id) c.degrees.ensures) (c.contains-outside.ensures ∙ ap (λ s. external (model_of s) id) c.externals.ensures)
    c.none_or_many.ensures

pub returns-else-is_in : goal.returns-else-is_in
returns-else-is_in c =
    let e = c.connector-c.ensures.0 ∙ ap (λ s. connector_read (connector (model_of s) c.args.i.0)) c.image.ensures in
    not-assigned _ _ e c.is_in.ensures c.if-is_in.false
