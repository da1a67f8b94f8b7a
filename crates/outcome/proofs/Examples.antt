-- Each model has its report, its filled image and its answer; each call leaves the bytes that are written out for it.
use mathlib.Core.Path.{◌≡◌, refl}
use mathlib.Core.List.{map}
use lib.Ieee.{of_bits, lt}
use Rattle.oce_model.specs.Examples.{models, computed_examples}
use Rattle.oce_model.specs.Raw.{computed_raw}
use Rattle.outcome.specs.Examples.{Case, cases, found, wanted, ended, report78, calls, endings}
use Rattle.outcome.specs.Computed.{computed}

-- every model is a case
pub all_models : map (λ (c : Case). c.image) cases ≡ models
unfolding computed_examples cases
all_models = refl

pub checked : map found cases ≡ map wanted cases
unfolding computed computed_examples cases of_bits lt
checked = refl

pub called : map ended calls ≡ endings
unfolding computed computed_examples computed_raw report78 calls endings of_bits lt
called = refl
