-- Of the members before x those of crowded buckets are collected.
use Rattle.crossed_buckets.proofs.Laws.{Collects}
use Rattle.crossed_buckets.proofs.collect_known.Given as goal

abbrev pub invariant-loop-x : goal.invariant-loop-x
invariant-loop-x l = Collects l.members l.known l.initial.records l.records l.n l.x
