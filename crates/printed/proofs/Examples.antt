-- What is printed for the image of 78 bytes, and for a refusal. FORMAT 19.
use mathlib.Core.Path.{◌≡◌, refl}
use mathlib.Core.List.{[]}
use Rattle.oce_model.specs.Examples.{image78, computed_examples}
use Rattle.outcome.specs.Answer.{answer}
use Rattle.printed.specs.Printed.{printed}
use Rattle.printed.specs.Computed.{computed}
use Rattle.printed.specs.Examples.{lent, printed78, refused1}

pub prints-78 : printed image78 (answer image78 lent lent) ≡ printed78
unfolding computed computed_examples printed78
prints-78 = refl

pub prints-refusal : printed [] (answer [] lent lent) ≡ refused1
unfolding computed refused1
prints-refusal = refl
