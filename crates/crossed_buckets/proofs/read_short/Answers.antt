-- Four bytes and those behind them, or all of fewer.
use native.Mathlib.Omega.{arith}
use mathlib.Core.Path.{◌∙◌}
use Rattle.crossed_buckets.proofs.Laws.{le-lower, le-joined}
use Rattle.crossed_buckets.proofs.read_short.Goals as goal

pub returns-then-t-lt4 : goal.returns-then-t-lt4
returns-then-t-lt4 c = le-lower _ _ 4 4 (c.from.ensures ∙ c.read_few.ensures) (omega (arith, c.if-t-lt4.true))

pub returns-else-t-lt4 : goal.returns-else-t-lt4
returns-else-t-lt4 c = le-joined _ _ 4 4 (c.from-else-t-lt4.ensures ∙ c.read.ensures) (c.from-else-t-lt4-2.ensures ∙ c.read_few-else-t-lt4.ensures)
