-- `agreement_filled::put_records` meets its contract: a record a turn.
use Rattle.agreement_filled.proofs.Laws.{Puts}
use Rattle.agreement_filled.proofs.put_records.Given as goal

abbrev pub invariant-loop-k : goal.invariant-loop-k
invariant-loop-k l = Puts l.file l.at l.image l.count l.initial.expected l.expected l.slots l.k
