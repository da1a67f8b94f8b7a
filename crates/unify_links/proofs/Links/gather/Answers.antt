-- `unify_links::Links::gather` meets its contract.
use Rattle.std.proofs.Common.{arith}
use Rattle.unify_links.proofs.Laws.{gathers-start, gathers-link, gathers-room, gathers-turn, gathers-less, gathers-done}
use Rattle.unify_links.proofs.Links.gather.Goals as goal

pub loop-link-init : goal.loop-link-init
loop-link-init c = gathers-start _ c.args.members.now c.self.invariant (rw c.self.view_is c.requires.0) (rw c.self.view_is c.requires.1)

pub target_of-requires : goal.target_of-requires
target_of-requires c = gathers-link c.loop-link.invariant c.in-Some.is

pub bounds-members-c : goal.bounds-members-c
bounds-members-c c = gathers-room c.loop-link.invariant c.in-Some.is

pub bounds-self-inside-k : goal.bounds-self-inside-k
bounds-self-inside-k c = let k = gathers-link c.loop-link.invariant c.in-Some.is in omega (arith, c.self.invariant.room')

pub loop-link-smaller : goal.loop-link-smaller
loop-link-smaller c = gathers-less c.loop-link.invariant c.in-Some.is c.self.invariant

pub loop-link-preserved : goal.loop-link-preserved
loop-link-preserved c = gathers-turn c.loop-link.invariant c.in-Some.is c.target_of.ensures c.self.invariant

pub returns : goal.returns
returns c = rw (← c.self.view_is) (gathers-done c.loop-link.invariant c.in_default.is)
