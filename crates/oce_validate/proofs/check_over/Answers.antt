-- `oce_validate::check_over` meets its contract.
use Rattle.std.proofs.Common.{◌≡◌, ap}
use Rattle.unify_clusters.specs.Slots.{SlotTable}
use Rattle.oce_validate.proofs.Laws.{short-report, reported}
use Rattle.oce_validate.proofs.check_over.Goals as goal

pub returns-then-report-size : goal.returns-then-report-size
returns-then-report-size c =
    short-report _ _ (rw c.image.ensures at c.bytes.ensures.accepted) c.tally-counted.ensures.0 c.size_of-size.ensures c.requires c.if-report-size.true

pub returns : goal.returns
returns c =
    let t = c.tally-counted.ensures.0 in
    let i : c.tally-counted.new.slots.image ≡ c.args.slots.now.image = ap (λ (x : SlotTable). x.image) t.slots in
    reported _ _ (rw c.image.ensures at c.bytes.ensures.accepted) t c.size_of-size.ensures (rw i at c.leave_filled.ensures) (rw i at c.leave_report.ensures) c.requires c.if-report-size.false
