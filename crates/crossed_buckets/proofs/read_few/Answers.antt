-- The bytes that are left, one, two or three, and none past the end.
use native.Mathlib.Omega.{arith}
use mathlib.Core.Path.{◌∙◌}
use Rattle.numbers.proofs.Bytes.{le-past}
use Rattle.crossed_buckets.proofs.Laws.{le-lower, le-joined, le-one}
use Rattle.crossed_buckets.proofs.read_few.Goals as goal

pub returns-then-left-eq0 : goal.returns-then-left-eq0
returns-then-left-eq0 c = le-past 4 c.args.t.now c.args.at (omega (arith, c.if-left-eq0.true))

pub returns-then-left-eq1 : goal.returns-then-left-eq1
returns-then-left-eq1 c = le-lower _ _ 1 3 (le-one _ _ (c.from.ensures ∙ c.read.ensures)) (omega (arith, c.if-left-eq1.true))

pub returns-then-left-eq2 : goal.returns-then-left-eq2
returns-then-left-eq2 c = le-lower _ _ 2 2 (c.from-low.ensures ∙ c.read-else-left-eq1.ensures) (omega (arith, c.if-left-eq2.true))

pub returns-else-left-eq2 : goal.returns-else-left-eq2
returns-else-left-eq2 c =
    let last = le-lower _ _ 1 1 (le-one _ _ (c.from-else-left-eq2.ensures ∙ c.read-else-left-eq2.ensures)) (omega (arith, c.if-left-eq2.false)) in
    le-joined _ _ 2 2 (c.from-low.ensures ∙ c.read-else-left-eq1.ensures) last
