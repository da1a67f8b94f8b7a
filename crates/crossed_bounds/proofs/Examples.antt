-- What rule 5 reports of the models, in their order. FORMAT 14.
use Prim.Native.Nat.{ℕ}
use mathlib.Core.Path.{◌≡◌, refl}
use mathlib.Core.List.{List, [], ◌∷◌, map}
use lib.Ieee.{of_bits, lt}
use Rattle.oce_model.specs.Model.{model_of}
use Rattle.oce_model.specs.Examples.{models, computed_examples}
use Rattle.oce_diag.specs.Diagnostics.{connector_id, error}
use Rattle.oce_diag.specs.declared.Diagnostic.{Diagnostic}
use Rattle.oce_diag.specs.declared.Subject.TheVariants.{Text, Connector}
use Rattle.oce_diag.specs.declared.DiagCode.TheVariants.{CrossedBounds}
use Rattle.crossed_bounds.specs.CrossedBounds.{rule5}
use Rattle.crossed_bounds.specs.Computed.{computed}

abbrev reported : List ℕ → List Diagnostic
reported s = rule5 (model_of s)

-- j: an Integer min above the default max; l: a boundary input above its In; u: a connector, a boundary input and a boundary output; w: two groups, of two and of three members
pub crossed-bounds : map reported models
    ≡ [] ∷ [] ∷ [] ∷ [] ∷ [] ∷ [] ∷ [] ∷ [] ∷ []
    ∷ (error CrossedBounds 5 1 (Connector (connector_id 0)) 0 ∷ [])
    ∷ []
    ∷ (error CrossedBounds 5 4 (Text 0) 2 ∷ [])
    ∷ [] ∷ [] ∷ [] ∷ [] ∷ [] ∷ [] ∷ [] ∷ [] ∷ []
    ∷ (error CrossedBounds 5 1 (Connector (connector_id 0)) 0 ∷ error CrossedBounds 5 2 (Text 0) 1 ∷ error CrossedBounds 5 3 (Text 0) 0 ∷ [])
    ∷ []
    ∷ (error CrossedBounds 5 4 (Text 2) 2 ∷ error CrossedBounds 5 4 (Text 1) 3 ∷ [])
    ∷ []
unfolding computed computed_examples of_bits lt
crossed-bounds = refl
