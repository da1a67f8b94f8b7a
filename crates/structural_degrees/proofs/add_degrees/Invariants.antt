-- The connections before the place are counted.
use Rattle.std.proofs.Common.{◌≡◌}
use Rattle.structural_degrees.specs.Counted.{counted}
use Rattle.structural_degrees.proofs.add_degrees.Given as goal

abbrev pub invariant-loop-c : goal.invariant-loop-c
invariant-loop-c l = l.degrees ≡ counted l.fn.degrees l.connections l.c-index
