-- `unify_settle::put_members` meets its contract.
use Rattle.std.proofs.Common.{◌≡◌, drop}
use Rattle.unify.specs.Unify.{put_members}
use Rattle.unify_settle.proofs.put_members.Given as goal

abbrev pub invariant-loop-j : goal.invariant-loop-j
invariant-loop-j l = put_members l.detail l.v l.members l.initial.slots ≡ put_members l.detail l.v (drop l.j-index l.members) l.slots
