-- A member is collected by what is known of its bucket.
use native.Mathlib.Omega.{arith}
use borrow.Author.Rules.{rules}
use Rattle.crossed_buckets.proofs.Laws.{collects-start, collects-take, collects-pass}
use Rattle.crossed_buckets.proofs.collect_known.Goals as goal
use Rattle.crossed_buckets.proofs.collect_known.Goals.{then-is_in_crowd, else-is_in_crowd}

pub loop-x-init : goal.loop-x-init
loop-x-init c = search (collects-start, rules)

pub loop-x-preserved : goal.loop-x-preserved
loop-x-preserved c =
    let v = c.loop-x.invariant in
    elim c.if-is_in_crowd.branch [
      | then-is_in_crowd w ↦ rw (w.records-is, w.n-is) (collects-take v c.is_in_crowd.ensures w.if-is_in_crowd.true (omega arith))
      | else-is_in_crowd w ↦ rw (w.records-is, w.n-is) (collects-pass v c.is_in_crowd.ensures w.if-is_in_crowd.false)
    ]
