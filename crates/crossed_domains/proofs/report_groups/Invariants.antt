-- The members before y are taken in.
use Rattle.oce_model.specs.Model.{model_of}
use Rattle.crossed_members.specs.Members.{member_count}
use Rattle.crossed_domains.proofs.Reporting.{MembersPassed}
use Rattle.crossed_domains.proofs.report_groups.Given as goal

abbrev pub invariant-loop-y : goal.invariant-loop-y
invariant-loop-y l = MembersPassed (model_of l.externals) (member_count (model_of l.externals)) l.x l.rest l.initial.report l.report l.p l.y-index
