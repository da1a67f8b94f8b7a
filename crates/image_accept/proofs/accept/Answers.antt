-- `accept` meets its contract: the length, the one pass, then the refusals.
use mathlib.Core.Path.{refl, sym, ◌∙◌}
use Rattle.oce_model.specs.Format.{text_tag, block_tag}
use Rattle.image_accept.proofs.Answers.{answer-sized, good-size, is-refused, same-error, table-sized}
use Rattle.image_accept.proofs.accept.Goals as goal

pub returns-then-bad_size-clause-answer : goal.returns-then-bad_size-clause-answer
returns-then-bad_size-clause-answer c = answer-sized c.args.image.now c.bad_size.ensures c.if-bad_size.true

pub returns-then-bad_size-clause-texts : goal.returns-then-bad_size-clause-texts
returns-then-bad_size-clause-texts c = table-sized c.args.image.now c.bad_size.ensures text_tag _ c.if-bad_size.true

pub returns-then-bad_size-clause-blocks : goal.returns-then-bad_size-clause-blocks
returns-then-bad_size-clause-blocks c = table-sized c.args.image.now c.bad_size.ensures block_tag _ c.if-bad_size.true

pub invariant_of-image : goal.invariant_of-image
invariant_of-image c = record { size = good-size c.args.image.now c.bad_size.ensures c.if-bad_size.false }

pub unwrap_err-requires : goal.unwrap_err-requires
unwrap_err-requires c = rw (is-refused c.args.image.now c.in-None.ensures.layout c.refuse.ensures).is refl

pub returns-in-None-clause-answer : goal.returns-in-None-clause-answer
returns-in-None-clause-answer c =
    let w = is-refused c.args.image.now c.in-None.ensures.layout c.refuse.ensures in
    same-error (sym c.unwrap_err.ensures ∙ w.is) ∙ w.answer
