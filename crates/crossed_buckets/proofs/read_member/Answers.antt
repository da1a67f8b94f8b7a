-- A member that takes part has its bucket, another none.
use Rattle.std.proofs.Common.{◌∙◌, ap}
use Rattle.oce_model.specs.Model.{model_of, text}
use Rattle.crossed_buckets.proofs.Laws.{joins-value, stays-value}
use Rattle.crossed_buckets.proofs.read_member.Goals as goal

pub returns-then-member_joins : goal.returns-then-member_joins
returns-then-member_joins c =
    let read = c.text.ensures ∙ ap (text (model_of c.args.image.now)) c.from.ensures in
    joins-value _ _ c.member_iri-iri.ensures read c.bucket_of.ensures.0 c.member_joins.ensures c.if-member_joins.true

pub returns-else-member_joins : goal.returns-else-member_joins
returns-else-member_joins c = stays-value _ _ c.member_iri-iri.ensures c.member_joins.ensures c.if-member_joins.false
