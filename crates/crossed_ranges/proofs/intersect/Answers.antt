-- Of two equal integers it doesn't tell which is taken.
use Rattle.std.proofs.Common.{◌≡◌, ℤ, arith}
use Rattle.std.proofs.lemmas.Int.{ints, to_z-of_z}
use Rattle.std.specs.Int.{int_max}
use Rattle.crossed_bounds.specs.Ranges.{intersect, higher_integer, lower_integer}
use Rattle.crossed_ranges.proofs.intersect.Goals as goal

max-higher : (a b : ℤ) → int_max a b ≡ higher_integer a b
unfolding higher_integer
max-higher a b = grind (arith, ints)

pub returns-in-Integer-Integer : goal.returns-in-Integer-Integer
unfolding intersect lower_integer
returns-in-Integer-Integer c = grind (arith, to_z-of_z, max-higher)
