-- A detail that no member declares: it fills nothing, it reports nothing, and no other detail's filling changes that.
use Prim.Native.Nat.{ℕ}
use native.Mathlib.Decide.{ℕ_discrete}
use mathlib.Core.Path.{◌≡◌, refl, sym, ap, ◌∙◌}
use mathlib.Core.Logic.{◌≢◌}
use mathlib.Core.List.{List, [], ◌∷◌}
use Rattle.oce_model.specs.declared.Attrs.{Attrs}
use Rattle.oce_model.specs.Model.{Model}
use Rattle.unify.specs.Details.{kind_of, bit_of, unified_details}
use Rattle.unify.specs.Slots.{Slots, slot, value}
use Rattle.unify.specs.Unify.{declarations, settle, fill, conflict, fill_faults, display_faults, fill_details, details_faults, cluster_faults}
use Rattle.unify.specs.declared.Detail.{Detail}
use Rattle.unify.specs.declared.Detail.TheVariants.{DisplayUnit}
use Rattle.unify.proofs.Fixed.{fill-fixed}
use Rattle.unify.proofs.Declared.{value-put}

pub fill-undeclared : (ts : List (List ℕ)) (js : List ℕ) (d : Detail) (σ : Slots) → declarations d σ js ≡ [] → fill ts js d σ ≡ σ
unfolding fill settle
fill-undeclared ts js d σ none = rw none

pub faults-undeclared : (m : Model) (js : List ℕ) (d : Detail) (σ : Slots) → declarations d σ js ≡ [] → (r : ℕ) → fill_faults m r js d σ ≡ []
unfolding fill_faults conflict
faults-undeclared m js d σ none r = rw none

pub display-undeclared : (m : Model) (js : List ℕ) (σ : Slots) → declarations DisplayUnit σ js ≡ [] → (r : ℕ) → display_faults m r js σ ≡ []
unfolding display_faults conflict
display-undeclared m js σ none r = rw none

-- ---- the same is declared where each slot declares the same

pub declarations-same : (d e : Detail) (σ τ : Slots) (js : List ℕ) → ((i : ℕ) → value d (slot σ i) ≡ value e (slot τ i)) → declarations d σ js ≡ declarations e τ js
unfolding declarations
declarations-same d e σ τ [] h = refl
declarations-same d e σ τ (j ∷ js) h = rw (h j, declarations-same d e σ τ js h)

-- one detail by its kind and bit
value_same : (d e : Detail) (a : Attrs) → kind_of d ≡ kind_of e → bit_of d ≡ bit_of e → value d a ≡ value e a
unfolding value
value_same d e a k b = rw (k, b)

pub fill-keeps : (ts : List (List ℕ)) (js : List ℕ) (d e : Detail) (σ : Slots) → declarations d σ js ≡ [] → declarations d (fill ts js e σ) js ≡ []
fill-keeps ts js d e σ none = arm (ℕ_discrete (kind_of d) (kind_of e)) (ℕ_discrete (bit_of d) (bit_of e))
  where
    other : (kind_of d ≡ kind_of e → bit_of d ≢ bit_of e) → declarations d (fill ts js e σ) js ≡ []
    other n = declarations-same d d (fill ts js e σ) σ js (fill-fixed (value d) e (λ v. value-put d e v n) ts js σ) ∙ none

    arm : Dec (kind_of d ≡ kind_of e) → Dec (bit_of d ≡ bit_of e) → declarations d (fill ts js e σ) js ≡ []
    arm (yes k) (yes b) = rw (fill-undeclared ts js e σ (sym (declarations-same d e σ σ js (λ i. value_same d e (slot σ i) k b)) ∙ none)) none
    arm (yes k) (no b) = other (λ _. b)
    arm (no k) b = other (λ e. absurd (k e))

-- ---- a cluster that declares nothing

module _ (m : Model) (js : List ℕ) (σ : Slots) (none : (d : Detail) → declarations d σ js ≡ []) where
  pub details-undeclared : (ds : List Detail) → fill_details m.texts js ds σ ≡ σ
  unfolding fill_details
  details-undeclared [] = refl
  details-undeclared (d ∷ ds) = ap (fill_details m.texts js ds) (fill-undeclared m.texts js d σ (none d)) ∙ details-undeclared ds

  faults-none : (r : ℕ) (ds : List Detail) → details_faults m r js ds σ ≡ []
  unfolding details_faults
  faults-none r [] = refl
  faults-none r (d ∷ ds) = rw (faults-undeclared m js d σ (none d) r, fill-undeclared m.texts js d σ (none d)) (faults-none r ds)

  pub cluster-undeclared : (r : ℕ) → cluster_faults m r js σ ≡ []
  unfolding cluster_faults
  cluster-undeclared r = rw (faults-none r unified_details, details-undeclared unified_details) (display-undeclared m js σ (none DisplayUnit) r)
