-- `unify_seen::seen_in` meets its contract: a member that is a slot, or none.
use Rattle.oce_model.specs.Attributes.{no_attrs}
use Rattle.unify.specs.Slots.{slot}
use Rattle.unify_seen.proofs.Laws.{sees-turn, sees-none}
use Rattle.unify_seen.proofs.seen_in.Goals as goal
use Rattle.unify_seen.proofs.seen_in.Goals.{in-Some, in_default}

pub loop-j-preserved : goal.loop-j-preserved
unfolding slot no_attrs
loop-j-preserved c =
    let v = c.loop-j.invariant in
    let h = c.loop-j-test.true in
    elim c.match-get.branch [
      | in-Some w ↦
          let e = w.in-Some.ensures.lookup.3.1 no_attrs in
          rw (w.real-is, w.integer-is) (sees-turn v (rw e at w.take_in-real.ensures) (rw e at w.take_in-integer.ensures) h)
      | in_default w ↦ rw (w.real-is, w.integer-is) (sees-none v w.in_default.ensures.lookup.3 h)
    ]
