-- `unify_settle::put_members` meets its contract.
use Rattle.unify_settle.proofs.Laws.{put-next, put-done}
use Rattle.unify_settle.proofs.put_members.Goals as goal

pub loop-j-preserved : goal.loop-j-preserved
loop-j-preserved c =
    rw c.put_at.ensures (put-next c.args.detail c.args.v c.args.members.now c.args.slots.now c.loop-j.slots c.loop-j.j-index c.loop-j.invariant c.loop-j-test.true)

pub returns : goal.returns
returns c = put-done c.args.detail c.args.v c.args.members.now c.args.slots.now c.loop-j.slots c.loop-j.j-index c.loop-j.invariant c.loop-j-test.false
