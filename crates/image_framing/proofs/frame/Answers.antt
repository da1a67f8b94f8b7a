-- `image_framing::frame` meets its contract: what is found is what was found before, then what the rest holds.
use Rattle.std.proofs.Common.{rules}
use Rattle.image_framing.proofs.Finds.{framing-start, framing-fits, framing-next, framing-cut, framing-whole}
use Rattle.image_framing.proofs.frame.Goals as goal

pub loop-f-init : goal.loop-f-init
loop-f-init c = framing-start cc

pub end_of-end-requires : goal.end_of-end-requires
end_of-end-requires c = search (framing-fits, rules)

pub loop-f-preserved : goal.loop-f-preserved
loop-f-preserved c = framing-next c.loop-f.invariant c.in-Some.ensures.steps c.bad_tag.ensures c.then_some.ensures c.or-bad.ensures c.end_of-end.ensures

pub returns-then-end-s : goal.returns-then-end-s
returns-then-end-s c = framing-cut c.loop-f.invariant c.in-None.ensures.steps.0 c.if-end-s.true

pub returns-else-end-s : goal.returns-else-end-s
returns-else-end-s c = framing-whole c.loop-f.invariant c.in-None.ensures.steps.0 c.if-end-s.false
