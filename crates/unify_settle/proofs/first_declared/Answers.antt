-- `unify_settle::first_declared` meets its contract.
use Rattle.unify_settle.proofs.Laws.{first-next, first-found, first-none}
use Rattle.unify_settle.proofs.first_declared.Goals as goal

pub returns-in-Some : goal.returns-in-Some
returns-in-Some c = first-found c.args.detail c.args.slots.now c.args.members.now c.loop-i.i c.loop-i.invariant c.loop-i-test.true c.declared_at.ensures c.in-Some.is

pub loop-i-preserved : goal.loop-i-preserved
loop-i-preserved c = first-next c.args.detail c.args.slots.now c.args.members.now c.loop-i.i c.loop-i.invariant c.loop-i-test.true c.declared_at.ensures c.in_default.is

pub returns : goal.returns
returns c = first-none c.args.detail c.args.slots.now c.args.members.now c.loop-i.i c.loop-i.invariant c.loop-i-test.false
