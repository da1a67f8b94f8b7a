-- Members are noted one by one.
use borrow.Author.Rules.{rules}
use Rattle.crossed_buckets.proofs.Laws.{notes-start, notes-turn}
use Rattle.crossed_buckets.proofs.note_all.Goals as goal

pub loop-x-init : goal.loop-x-init
loop-x-init c = search (notes-start, rules)

pub loop-x-preserved : goal.loop-x-preserved
loop-x-preserved c = search (notes-turn, rules)
