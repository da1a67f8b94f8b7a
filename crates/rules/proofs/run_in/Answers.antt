use Rattle.std.proofs.Common.{arith}
use Rattle.rules.proofs.run_in.Goals as goal

pub whole_as_slice-of : goal.whole_as_slice-of
whole_as_slice-of g c = omega (arith, c.requires.short.0)

pub whole_as_slice-of-2 : goal.whole_as_slice-of-2
whole_as_slice-of-2 g c = omega (arith, c.requires.short.1)

pub whole_as_slice-of-3 : goal.whole_as_slice-of-3
whole_as_slice-of-3 g c = omega (arith, c.requires.short.1)
