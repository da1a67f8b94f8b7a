-- `survey` meets its contract: the sections and tables tell of the fields passed, and all are passed.
use mathlib.Core.Path.{◌∙◌}
use native.Mathlib.Omega.{arith}
use Rattle.std.proofs.Common.{rules}
use Rattle.oce_model.specs.Format.{text_tag, block_tag, most}
use Rattle.image_accept.proofs.Surveying.{laid, left-refused, none-left, not-accepted, not-tabled, passed-start, survey-accepted, survey-blocks, survey-cut, survey-section, survey-texts}
use Rattle.image_accept.proofs.GoodSize.survey.Goals as goal

pub pass_all-requires : goal.pass_all-requires
unfolding most
pass_all-requires c = record { passed = passed-start _ _ c.of-fields.ensures (omega arith) (omega arith) }

pub returns-in_err-pass_all-clause-layout : goal.returns-in_err-pass_all-clause-layout
returns-in_err-pass_all-clause-layout c = c.from_residual.ensures ∙ not-accepted c.args.self.now.bytes.now c.in_err-pass_all.ensures.refused

pub returns-then-is_some-clause-layout : goal.returns-then-is_some-clause-layout
returns-then-is_some-clause-layout c = not-accepted c.args.self.now.bytes.now (left-refused c.in_ok-pass_all.ensures.passed _ _ c.next.ensures.steps c.is_some.ensures c.if-is_some.true)

pub returns-then-is_some-clause-texts : goal.returns-then-is_some-clause-texts
returns-then-is_some-clause-texts c = not-tabled text_tag _ (left-refused c.in_ok-pass_all.ensures.passed _ _ c.next.ensures.steps c.is_some.ensures c.if-is_some.true)

pub returns-then-is_some-clause-blocks : goal.returns-then-is_some-clause-blocks
returns-then-is_some-clause-blocks c = not-tabled block_tag _ (left-refused c.in_ok-pass_all.ensures.passed _ _ c.next.ensures.steps c.is_some.ensures c.if-is_some.true)

pub returns-then-end-s-clause-layout : goal.returns-then-end-s-clause-layout
returns-then-end-s-clause-layout c = not-accepted c.args.self.now.bytes.now (survey-cut c.in_ok-pass_all.ensures.passed.surveying (none-left c.in_ok-pass_all.ensures.passed _ _ c.next.ensures.steps c.is_some.ensures c.if-is_some.false) c.if-end-s.true)

pub returns-then-end-s-clause-texts : goal.returns-then-end-s-clause-texts
returns-then-end-s-clause-texts c = not-tabled text_tag _ (survey-cut c.in_ok-pass_all.ensures.passed.surveying (none-left c.in_ok-pass_all.ensures.passed _ _ c.next.ensures.steps c.is_some.ensures c.if-is_some.false) c.if-end-s.true)

pub returns-then-end-s-clause-blocks : goal.returns-then-end-s-clause-blocks
returns-then-end-s-clause-blocks c = not-tabled block_tag _ (survey-cut c.in_ok-pass_all.ensures.passed.surveying (none-left c.in_ok-pass_all.ensures.passed _ _ c.next.ensures.steps c.is_some.ensures c.if-is_some.false) c.if-end-s.true)

pub returns-clause-layout : goal.returns-clause-layout
returns-clause-layout c =
    let v = c.in_ok-pass_all.ensures.passed in
    let none = none-left v _ _ c.next.ensures.steps c.is_some.ensures c.if-is_some.false in
    laid c.args.self.now.bytes.now c.pass_all.new.sections (survey-accepted v.surveying none c.args.self.now.size c.if-end-s.false) (survey-section v.surveying none c.args.self.now.size c.if-end-s.false)
    c.read_padded.ensures c.int_of_bits.ensures (search rules) c.read_padded-2.ensures c.int_of_bits-2.ensures (search rules)

pub returns-clause-texts : goal.returns-clause-texts
returns-clause-texts c =
    let v = c.in_ok-pass_all.ensures.passed in
    survey-texts v.surveying (none-left v _ _ c.next.ensures.steps c.is_some.ensures c.if-is_some.false) c.args.self.now.size c.if-end-s.false

pub returns-clause-blocks : goal.returns-clause-blocks
returns-clause-blocks c =
    let v = c.in_ok-pass_all.ensures.passed in
    survey-blocks v.surveying (none-left v _ _ c.next.ensures.steps c.is_some.ensures c.if-is_some.false) c.args.self.now.size c.if-end-s.false
