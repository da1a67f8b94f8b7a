-- `batch_check::write_parts` meets its contract: what is left, written from o on, makes the whole output.
use Rattle.std.proofs.Common.{rules, arith}
use Rattle.batch_framing.proofs.Passes.{ahead-at}
use Rattle.batch_check.proofs.Passes.{writing_start, writing-kept, writing-offset, writing-entry, writing-room, writing-turn, writing-end}
use Rattle.batch_check.proofs.write_parts.Goals as goal

pub loop-f-init : goal.loop-f-init
loop-f-init c = search (writing_start, rules)

pub offset_bounds-kept-f : goal.offset_bounds-kept-f
offset_bounds-kept-f c = let few = writing-offset c.loop-f.invariant c.in-Some.ensures.steps in omega arith

pub bounds-kept-f : goal.bounds-kept-f
bounds-kept-f c = writing-kept c.loop-f.invariant c.in-Some.ensures.steps

pub write_part-o-requires : goal.write_part-o-requires
write_part-o-requires c =
    let v = c.loop-f.invariant in
    let e = c.in-Some.ensures.steps in
    (ahead-at v.ahead e, writing-entry v e, writing-room v e)

pub loop-f-preserved : goal.loop-f-preserved
loop-f-preserved c = search (writing-turn, rules)

pub returns : goal.returns
returns c = writing-end c.loop-f.invariant c.in-None.ensures.steps.0
