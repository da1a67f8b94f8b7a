-- `batch_check::measure` meets its contract: the images passed are kept, and their bytes counted.
use Rattle.std.proofs.Common.{rules}
use Rattle.batch_framing.proofs.Passes.{ahead-at}
use Rattle.batch_check.proofs.Passes.{measuring-start, measuring-kept, measuring-sum, measuring-turn, measuring-long, measuring-end}
use Rattle.batch_check.proofs.measure.Goals as goal

pub loop-f-init : goal.loop-f-init
loop-f-init c = measuring-start _ _ c.requires.0 (cc) c.requires.1

pub measure_image-needed-requires : goal.measure_image-needed-requires
measure_image-needed-requires c =
    let v = c.loop-f.invariant in
    let e = c.in-Some.ensures.steps in
    (ahead-at v.ahead e, measuring-kept v e)

pub overflow_add-needed : goal.overflow_add-needed
overflow_add-needed c = search (measuring-sum, rules)

pub loop-f-preserved : goal.loop-f-preserved
loop-f-preserved c = search (measuring-turn, rules)

pub shape_of-early : goal.shape_of-early
shape_of-early c = search (measuring-long, rules)

pub returns : goal.returns
returns c = measuring-end c.loop-f.invariant c.in-None.ensures.steps.0
