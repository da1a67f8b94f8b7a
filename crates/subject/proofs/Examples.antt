-- The texts of subjects of the image of 78 bytes; the longest label with an id just fills the least scratch. FORMAT 8.
use mathlib.Core.Path.{◌≡◌, refl}
use mathlib.Core.List.{map}
use Rattle.oce_model.specs.Examples.{computed_examples}
use Rattle.subject.specs.Subject.{least_scratch}
use Rattle.subject.specs.Computed.{computed}
use Rattle.subject.specs.Examples.{cases, found, wanted, longest}

pub texts-are : map found cases ≡ map wanted cases
unfolding computed computed_examples cases
texts-are = refl

pub longest-is : longest ≡ least_scratch
unfolding computed computed_examples
longest-is = refl
