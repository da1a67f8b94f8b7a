-- What is printed for an empty batch, for two images, and for the two refusals of a batch. FORMAT 23.
use Prim.Native.Nat.{◌-◌}
use mathlib.Core.Path.{◌≡◌, refl}
use mathlib.Core.List.{[]}
use Rattle.oce_model.specs.Examples.{computed_examples}
use Rattle.printed.specs.Examples.{printed78, refused1}
use Rattle.printed_batch.specs.PrintedBatch.{printed_batch}
use Rattle.printed_batch.specs.Computed.{computed}
use Rattle.printed_batch.specs.Examples.{two, strange, two_need, printed_two, refused11, refused12}

pub prints-none : printed_batch [] 0 ≡ []
unfolding computed
prints-none = refl

pub prints-two : printed_batch two two_need ≡ printed_two
unfolding computed computed_examples two printed_two printed78 refused1
prints-two = refl

pub prints-strange : printed_batch strange two_need ≡ refused11
unfolding computed computed_examples strange two refused11
prints-strange = refl

pub prints-short : printed_batch two (two_need - 1) ≡ refused12
unfolding computed computed_examples two refused12
prints-short = refl
