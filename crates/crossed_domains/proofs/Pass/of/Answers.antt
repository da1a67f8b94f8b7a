-- What is opened is what the member's range and whether it is external give.
use Rattle.std.proofs.Common.{ap, ◌∙◌}
use Rattle.oce_model.specs.Model.{model_of}
use Rattle.crossed_members.specs.Members.{member_range}
use Rattle.crossed_domains.specs.Pass.{opened}
use Rattle.crossed_domains.proofs.Pass.of.Goals as goal

pub returns : goal.returns
unfolding opened
returns c =
    let range = c.member_range.ensures ∙ ap (λ s. member_range (model_of s) c.args.x) c.image.ensures in
    rw (c.member_external.ensures, c.uncrossed.ensures, range)
