-- Each image that is turned away gets its refusal.
use mathlib.Core.Path.{◌≡◌, refl}
use mathlib.Core.List.{[], ◌∷◌, map}
use lib.Ieee.{of_bits, lt}
use Rattle.oce_model.specs.Examples.{computed_examples}
use Rattle.outcome.specs.Answer.{answer, numbers_of}
use Rattle.outcome.specs.Computed.{computed}
use Rattle.refused.specs.Refused.{Turned, turned_away}

pub refused : map (λ t. numbers_of (answer t.image t.filled_room t.report_room)) turned_away ≡ map (λ (t : Turned). t.number ∷ t.offset ∷ []) turned_away
unfolding computed computed_examples turned_away of_bits lt
refused = refl
