-- What rule 6 reports of the models, in their order: 6.1 to 6.7, and what 6.8 would report if it were asked. FORMAT 16.
use Prim.Native.Nat.{ℕ}
use mathlib.Core.Path.{◌≡◌, refl}
use mathlib.Core.Bool.{false}
use mathlib.Core.List.{List, [], ◌∷◌, map}
use lib.Ieee.{of_bits, lt, eq}
use Rattle.oce_model.specs.Model.{model_of}
use Rattle.oce_model.specs.Examples.{models, model_f, model_n, computed_examples}
use Rattle.oce_diag.specs.Diagnostics.{connector_id, error, warning}
use Rattle.oce_diag.specs.declared.Diagnostic.{Diagnostic}
use Rattle.oce_diag.specs.declared.Subject.TheVariants.{Connector}
use Rattle.oce_diag.specs.declared.DiagCode.TheVariants.{UnitQuantityMismatch, BoundMismatch, CrossedBounds, DisplayUnitDivergence}
use Rattle.unify.specs.Unify.{clusters_faults, propagated, rule6}
use Rattle.unify.specs.Computed.{computed}

abbrev reported : List ℕ → List Diagnostic
reported s = clusters_faults (model_of s)

-- c and n: K and degC; d: two zeros; m: display units; p: a filled K and degC; v: quantity and max of a Real root, both ends of an Integer one
pub unify : map reported models
    ≡ [] ∷ []
    ∷ (error UnitQuantityMismatch 6 1 (Connector (connector_id 0)) 0 ∷ [])
    ∷ (error BoundMismatch 6 3 (Connector (connector_id 0)) 0 ∷ [])
    ∷ [] ∷ [] ∷ [] ∷ [] ∷ [] ∷ [] ∷ [] ∷ []
    ∷ (warning DisplayUnitDivergence 6 7 (Connector (connector_id 0)) 0 ∷ [])
    ∷ (error UnitQuantityMismatch 6 1 (Connector (connector_id 2)) 2 ∷ [])
    ∷ []
    ∷ (error UnitQuantityMismatch 6 1 (Connector (connector_id 1)) 1 ∷ [])
    ∷ [] ∷ [] ∷ [] ∷ [] ∷ [] ∷ []
    ∷ (error UnitQuantityMismatch 6 2 (Connector (connector_id 0)) 0 ∷ error BoundMismatch 6 4 (Connector (connector_id 0)) 0
    ∷ error BoundMismatch 6 5 (Connector (connector_id 2)) 2 ∷ error BoundMismatch 6 6 (Connector (connector_id 2)) 2 ∷ [])
    ∷ [] ∷ []
unfolding computed computed_examples of_bits lt eq
unify = refl

-- f, n and u: a min of 5 beside a max of 3
pub propagation : map (λ s. propagated (model_of s)) models
    ≡ [] ∷ [] ∷ [] ∷ [] ∷ []
    ∷ (error CrossedBounds 6 8 (Connector (connector_id 0)) 0 ∷ [])
    ∷ [] ∷ [] ∷ [] ∷ [] ∷ [] ∷ [] ∷ []
    ∷ (error CrossedBounds 6 8 (Connector (connector_id 0)) 0 ∷ [])
    ∷ [] ∷ [] ∷ [] ∷ [] ∷ [] ∷ [] ∷ []
    ∷ (error CrossedBounds 6 8 (Connector (connector_id 0)) 0 ∷ [])
    ∷ [] ∷ [] ∷ []
unfolding computed computed_examples of_bits lt eq
propagation = refl

-- the whole rule, where no rule before it reported an error: 6.8 is asked of f, and not of n, which has an error
pub whole : map (λ s. rule6 (model_of s) false) (model_f ∷ model_n ∷ [])
    ≡ (error CrossedBounds 6 8 (Connector (connector_id 0)) 0 ∷ [])
    ∷ (error UnitQuantityMismatch 6 1 (Connector (connector_id 2)) 2 ∷ [])
    ∷ []
unfolding computed computed_examples of_bits lt eq
whole = refl
