-- `batch_framing::find_fault` meets its contract: none of the fields passed is at fault.
use Rattle.std.proofs.Common.{◌∙◌, rules}
use Rattle.image_framing.proofs.Finds.{searching-start, searching-fits, searching-next, searching-found, searching-none, stopping-start, stopping-next, stopping-end}
use Rattle.batch_framing.proofs.Finds.{fault-bad, fault-end}
use Rattle.batch_framing.proofs.find_fault.Goals as goal

pub loop-f-init : goal.loop-f-init
loop-f-init c = (searching-start _ cc, stopping-start cc)

pub returns-then-bad_field : goal.returns-then-bad_field
returns-then-bad_field c = fault-bad _ (searching-found c.loop-f.invariant.0 c.in-Some.ensures.steps c.bad_field.ensures c.if-bad_field.true)

pub end_of-end-requires : goal.end_of-end-requires
end_of-end-requires c = search (searching-fits, rules)

pub loop-f-preserved : goal.loop-f-preserved
loop-f-preserved c =
    let e = c.in-Some.ensures.steps in
    (searching-next c.loop-f.invariant.0 e c.bad_field.ensures c.if-bad_field.false, stopping-next c.loop-f.invariant.1 e c.end_of-end.ensures)

pub returns : goal.returns
returns c =
    let e = c.in-None.ensures.steps.0 in
    c.then_some.ensures ∙ fault-end _ (searching-none c.loop-f.invariant.0 e) (stopping-end c.loop-f.invariant.1 e)
