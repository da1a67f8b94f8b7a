-- Rule 6, `unify_clusters`: FORMAT 16; Standard 231, §7.10.
use Rattle.std.specs.Prelude.{ℕ, Bool, false, cond, not, ◌&&◌, ◌||◌, List, [], ◌∷◌, ◌++◌, set}
use Rattle.std.specs.Prelude.{Option, Some, None}
use Rattle.base.specs.Lists.{each, steps, all, only}
use Rattle.oce_model.specs.Model.{Model, connector, connector_count}
use Rattle.oce_diag.specs.Diagnostics.{subject_of, error, warning, has_error}
use Rattle.oce_diag.specs.declared.Diagnostic.{Diagnostic}
use Rattle.oce_diag.specs.declared.DiagCode.{DiagCode}
use Rattle.oce_diag.specs.declared.DiagCode.TheVariants.{UnitQuantityMismatch, BoundMismatch, CrossedBounds, DisplayUnitDivergence}
use Rattle.crossed_bounds.specs.Ranges.{range_of, crossed}
use Rattle.unify.specs.Details.{detail_number, is_text, unified_details}
use Rattle.unify.specs.Slots.{Slots, slots_of, slot, value, agree, put}
use Rattle.unify.specs.Clusters.{driven, is_root}
use Rattle.unify.specs.declared.Detail.{Detail}
use Rattle.unify.specs.declared.Detail.TheVariants.{DisplayUnit}

-- ---- one detail over members js: `decide_and_apply`; ts are the model's texts

-- The values that the members declare, in their order: `declared`.
abbrev pub cons? : Option ℕ → List ℕ → List ℕ
cons? None l = l
cons? (Some v) l = v ∷ l

unfoldable pub declarations : Detail → Slots → List ℕ → List ℕ
declarations d σ [] = []
declarations d σ (j ∷ js) = cons? (value d (slot σ j)) (declarations d σ js)

-- Every member of the kind that has the detail unset takes v.
unfoldable pub put_members : Detail → ℕ → List ℕ → Slots → Slots
put_members d v [] σ = σ
put_members d v (j ∷ js) σ = put_members d v js (set σ j (put d v (slot σ j)))

-- If all that is declared agrees, the members take the first declared (a text by its number): R13.2.
unfoldable pub settle : List (List ℕ) → Detail → List ℕ → List ℕ → Slots → Slots
settle ts d [] js σ = σ
settle ts d (v ∷ vs) js σ = cond (all (agree ts d v) vs) (put_members d v js σ) σ

unfoldable pub fill : List (List ℕ) → List ℕ → Detail → Slots → Slots
fill ts js d σ = settle ts d (declarations d σ js) js σ

-- Not all that is declared agrees: R13.1.
unfoldable pub conflict : List (List ℕ) → Detail → List ℕ → Bool
conflict ts d [] = false
conflict ts d (v ∷ vs) = not (all (agree ts d v) vs)

-- The code of such an error: `RealAttr::conflict_code`.
unfoldable pub conflict_code : Detail → DiagCode
conflict_code d = cond (is_text d) UnitQuantityMismatch BoundMismatch

-- ---- one cluster: r is its root, js its members, the root first. Place and subject of what is reported are the root

-- A detail that is filled: an error where there is a conflict.
unfoldable pub fill_faults : Model → ℕ → List ℕ → Detail → Slots → List Diagnostic
fill_faults m r js d σ = only (conflict m.texts d (declarations d σ js)) (error (conflict_code d) 6 (detail_number d) (subject_of (connector m r)) r)

-- 6.7: display units that are declared differ, a warning. `warn_display_unit_divergence`, R13.3, §7.17.
unfoldable pub display_faults : Model → ℕ → List ℕ → Slots → List Diagnostic
display_faults m r js σ =
    only (conflict m.texts DisplayUnit (declarations DisplayUnit σ js)) (warning DisplayUnitDivergence 6 (detail_number DisplayUnit) (subject_of (connector m r)) r)

-- The slots after a list of details, filled in turn.
unfoldable pub fill_details : List (List ℕ) → List ℕ → List Detail → Slots → Slots
fill_details ts js [] σ = σ
fill_details ts js (d ∷ ds) σ = fill_details ts js ds (fill ts js d σ)

-- What a list of details reports, each seen with the ones before it filled.
unfoldable pub details_faults : Model → ℕ → List ℕ → List Detail → Slots → List Diagnostic
details_faults m r js [] σ = []
details_faults m r js (d ∷ ds) σ = fill_faults m r js d σ ++ details_faults m r js ds (fill m.texts js d σ)

-- 6.1 to 6.6, then 6.7.
unfoldable pub cluster_faults : Model → ℕ → List ℕ → Slots → List Diagnostic
cluster_faults m r js σ = details_faults m r js unified_details σ ++ display_faults m r js (fill_details m.texts js unified_details σ)

-- ---- all roots, in ascending order

-- The slots after connector r, which fills its cluster if it is a root.
unfoldable pub fill_root : Model → ℕ → Slots → Slots
fill_root m r σ = cond (is_root m r) (fill_details m.texts (r ∷ driven m r) unified_details σ) σ

-- What it reports, of slots σ.
unfoldable pub root_faults : Model → ℕ → Slots → List Diagnostic
root_faults m r σ = cond (is_root m r) (cluster_faults m r (r ∷ driven m r) σ) []

-- The slots after the connectors below n, as connector n sees them.
unfoldable pub filled_to : Model → ℕ → Slots
filled_to m n = steps n (fill_root m) (slots_of m)

-- The slots as rule 6 leaves them: after all roots.
unfoldable pub filled_slots : Model → Slots
filled_slots m = filled_to m (connector_count m)

-- 6.1 to 6.7 of all roots, each seeing what the ones before it have filled.
unfoldable pub clusters_faults : Model → List Diagnostic
clusters_faults m = each (connector_count m) (λ r. root_faults m r (filled_to m r))

-- 6.8: a root's range, as filled, is crossed. `check_propagated_cluster`.
unfoldable pub propagated_faults : Model → Slots → ℕ → List Diagnostic
propagated_faults m σ r = only (is_root m r && crossed (range_of m.defaults (slot σ r))) (error CrossedBounds 6 8 (subject_of (connector m r)) r)

unfoldable pub propagated : Model → List Diagnostic
propagated m = each (connector_count m) (propagated_faults m (filled_slots m))

-- ---- the whole rule

-- Rule 6, where `failed` says that a rule before it reported an error: 6.8 is asked only if no rule has.
unfoldable pub rule6 : Model → Bool → List Diagnostic
rule6 m failed = let ds = clusters_faults m in cond (failed || has_error ds) ds (ds ++ propagated m)
