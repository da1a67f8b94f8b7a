-- `unify_settle::first_declared` meets its contract.
use Rattle.std.proofs.Common.{◌≡◌, drop}
use Rattle.unify.specs.Unify.{declarations}
use Rattle.unify_settle.proofs.first_declared.Given as goal

abbrev pub invariant-loop-i : goal.invariant-loop-i
invariant-loop-i l = declarations l.detail l.slots l.members ≡ declarations l.detail l.slots (drop l.i l.members)
