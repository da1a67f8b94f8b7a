-- `agreement_filled::put_records` meets its contract: a record a turn.
use Rattle.std.proofs.Common.{rules}
use Rattle.agreement_filled.proofs.Laws.{puts-start, puts-turn, puts-count, puts-bytes}
use Rattle.agreement_filled.proofs.put_records.Goals as goal

pub loop-k-init : goal.loop-k-init
loop-k-init c = puts-start

pub loop-k-preserved : goal.loop-k-preserved
loop-k-preserved c = puts-turn c.loop-k.invariant c.from-slots.ensures c.put_record.ensures.slot c.put_record.ensures.expected (search rules) (search rules)

pub returns : goal.returns
returns c = let v = c.loop-k.invariant in (puts-count v (search rules), puts-bytes v (search rules))
