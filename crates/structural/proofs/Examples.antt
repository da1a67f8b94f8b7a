-- What rules 1 to 4 report of the models, in their order. FORMAT 9 to 12.
use Prim.Native.Nat.{ℕ}
use mathlib.Core.Path.{◌≡◌, refl}
use mathlib.Core.List.{List, [], ◌∷◌, ◌++◌, map}
use Rattle.oce_model.specs.Model.{model_of}
use Rattle.oce_model.specs.Examples.{models, computed_examples}
use Rattle.oce_diag.specs.Diagnostics.{connector_id, block_id, error}
use Rattle.oce_diag.specs.declared.Diagnostic.{Diagnostic}
use Rattle.oce_diag.specs.declared.Subject.TheVariants.{Nothing, Text, Connector, Block}
use Rattle.oce_diag.specs.declared.DiagCode.TheVariants.{MalformedDocument, DirectionMismatch, SingleAssignment, TypeMismatch}
use Rattle.structural.specs.Structural.{rule1, rule2, rule3, rule4}
use Rattle.structural.specs.Computed.{computed}

abbrev reported : List ℕ → List Diagnostic
reported s = let m = model_of s in rule1 m ++ rule2 m ++ rule3 m ++ rule4 m

-- g: two connections to one In; h: likewise, one of them from nowhere; o: an In that nothing drives; p: an In as a `from`; the 78 bytes: no block, an In that nothing drives;
-- r: ids and ports; s: boundary outputs; t: ends of connections; w: an In that nothing drives, and that isn't external
pub structural : map reported models
    ≡ [] ∷ [] ∷ [] ∷ [] ∷ [] ∷ []
    ∷ (error SingleAssignment 3 2 (Connector (connector_id 2)) 2 ∷ [])
    ∷ (error SingleAssignment 3 2 (Connector (connector_id 1)) 2 ∷ error MalformedDocument 4 1 Nothing 1 ∷ [])
    ∷ [] ∷ [] ∷ [] ∷ [] ∷ [] ∷ []
    ∷ (error SingleAssignment 3 1 (Connector (connector_id 2)) 2 ∷ [])
    ∷ (error DirectionMismatch 4 2 (Connector (connector_id 1)) 1 ∷ [])
    ∷ []
    ∷ (error MalformedDocument 1 5 (Text 0) 0 ∷ error SingleAssignment 3 1 (Text 0) 0 ∷ [])
    ∷ (error MalformedDocument 1 1 (Block (block_id 7)) 0 ∷ error MalformedDocument 1 2 (Block (block_id 7)) 1 ∷ error MalformedDocument 1 3 (Block (block_id 7)) 0
    ∷ error MalformedDocument 1 1 (Text 0) 1 ∷ error MalformedDocument 1 4 (Connector (connector_id 5)) 0 ∷ [])
    ∷ (error MalformedDocument 2 1 (Text 0) 0 ∷ error DirectionMismatch 2 2 (Text 0) 1 ∷ error MalformedDocument 2 3 (Text 0) 1 ∷ error MalformedDocument 2 3 (Text 0) 2 ∷ [])
    ∷ (error TypeMismatch 4 4 (Connector (connector_id 1)) 0 ∷ error DirectionMismatch 4 3 (Connector (connector_id 2)) 1 ∷ error TypeMismatch 4 4 (Connector (connector_id 2)) 1 ∷ [])
    ∷ [] ∷ []
    ∷ (error SingleAssignment 3 1 (Text 1) 0 ∷ [])
    ∷ []
unfolding computed computed_examples
structural = refl
