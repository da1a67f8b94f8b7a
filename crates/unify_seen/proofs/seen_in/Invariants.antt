-- `unify_seen::seen_in` meets its contract.
use Rattle.unify_seen.specs.Seen.{Sees}
use Rattle.unify_seen.proofs.seen_in.Given as goal

abbrev pub invariant-loop-j : goal.invariant-loop-j
invariant-loop-j l = Sees l.slots l.members l.real l.integer l.j-index
