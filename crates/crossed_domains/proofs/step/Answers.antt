-- The member joins the open group, or that is closed and another opened.
use Rattle.std.proofs.Common.{ap, ◌∙◌}
use native.Mathlib.Omega.{arith}
use Rattle.oce_diag.proofs.Reporting.{puts-more}
use Rattle.oce_model.specs.Model.{model_of}
use Rattle.crossed_members.specs.Members.{member_range}
use Rattle.crossed_domains.specs.Pass.{pass_faults, same_key}
use Rattle.crossed_domains.proofs.Laws.{step-grow, step-open}
use Rattle.crossed_domains.proofs.step.Goals as goal

pub returns-then-same_key : goal.returns-then-same_key
returns-then-same_key c =
    let range = c.member_range.ensures ∙ ap (λ s. member_range (model_of s) c.args.x) c.image-image.ensures in
    let key = c.same_key.ensures ∙ ap (λ s. same_key (model_of s) c.args.p.first c.args.x) c.image-image.ensures in
    step-grow key c.member_external.ensures range c.grow.ensures c.if-same_key.true

pub returns : goal.returns
returns c =
    let key = c.same_key.ensures ∙ ap (λ s. same_key (model_of s) c.args.p.first c.args.x) c.image-image.ensures in
    step-open key c.of.ensures c.if-same_key.false (puts-more c.close.ensures (omega arith) (ap (λ s. pass_faults (model_of s) c.args.p) c.image-image.ensures))
