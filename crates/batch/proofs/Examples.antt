-- Each of the batches has its answer and its output buffer.
use mathlib.Core.Path.{◌≡◌, refl}
use mathlib.Core.List.{map}
use lib.Ieee.{of_bits, lt}
use Rattle.oce_model.specs.Examples.{computed_examples}
use Rattle.batch.specs.Examples.{cases, found, wanted, mixed, mixed_output}
use Rattle.batch.specs.Computed.{computed}

pub checked : map found cases ≡ map wanted cases
unfolding computed computed_examples cases mixed mixed_output of_bits lt
checked = refl
