-- `pass` meets its contract: each field that is passed is told, one at fault is no accepted image's, and at the end the next has another tag.
use Rattle.oce_model.specs.Format.{text_tag, block_tag}
use Rattle.image_accept.proofs.Surveying.{passed-next, survey-fits, survey-lists, survey-notes, survey-refused}
use Rattle.image_accept.proofs.GoodSize.pass.Goals as goal

pub invariant_of-sieve-clause-inside : goal.invariant_of-sieve-clause-inside
invariant_of-sieve-clause-inside g c = survey-fits c.loop-f.invariant.surveying c.in-Some.ensures.given.0

pub returns-then-is_refused-clause-refused : goal.returns-then-is_refused-clause-refused
returns-then-is_refused-clause-refused g c = survey-refused c.loop-f.invariant.surveying c.in-Some.ensures.given.0 c.is_refused.ensures c.if-is_refused.true

pub note-requires : goal.note-requires
note-requires g c = survey-notes c.loop-f.invariant.surveying c.in-Some.ensures.given.0 c.is_refused.ensures c.if-is_refused.false

pub list-requires : goal.list-requires
list-requires g c = survey-lists c.loop-f.invariant.surveying c.in-Some.ensures.given.0 c.is_refused.ensures c.if-is_refused.false text_tag _ c.loop-f.invariant.text-room

pub list-requires-in-Some : goal.list-requires-in-Some
list-requires-in-Some g c = survey-lists c.loop-f.invariant.surveying c.in-Some.ensures.given.0 c.is_refused.ensures c.if-is_refused.false block_tag _ c.loop-f.invariant.block-room

pub loop-f-preserved : goal.loop-f-preserved
loop-f-preserved g c = passed-next c.loop-f.invariant c.in-Some.ensures.given.0 c.is_refused.ensures c.if-is_refused.false c.in-Some.ensures.given.1 c.note.ensures c.list.ensures c.list-in-Some.ensures c.end_of.ensures
