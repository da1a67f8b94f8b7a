-- `image_framing::first_fault` meets its contract: none of the fields passed passes the test.
use native.Mathlib.Omega.{arith}
use Rattle.image_framing.proofs.Finds.{hunting-start, hunting-fits, hunting-next, hunting-found, hunting-end}
use Rattle.image_framing.proofs.first_fault.Goals as goal

pub loop-f-init : goal.loop-f-init
loop-f-init g c = hunting-start cc

pub test-requires : goal.test-requires
test-requires g c = c.requires c.in-Some.f (hunting-fits c.loop-f.invariant c.in-Some.ensures.steps)

pub returns-then-test-clause-first : goal.returns-then-test-clause-first
returns-then-test-clause-first g c = hunting-found c.loop-f.invariant c.in-Some.ensures.steps c.test.ensures c.if-test.true

pub returns-then-test-clause-inside : goal.returns-then-test-clause-inside
returns-then-test-clause-inside g c = omega (arith, hunting-fits c.loop-f.invariant c.in-Some.ensures.steps)

pub loop-f-preserved : goal.loop-f-preserved
loop-f-preserved g c = hunting-next c.loop-f.invariant c.in-Some.ensures.steps c.test.ensures c.if-test.false

pub returns-clause-first : goal.returns-clause-first
returns-clause-first g c = hunting-end c.loop-f.invariant c.in-None.ensures.steps.0
