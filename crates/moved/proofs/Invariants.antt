-- A property of attributes that `put` keeps, where the value put in is one that attributes with the property can declare: rule 6 keeps it in all slots.
use Prim.Native.Nat.{ℕ, zero, suc, ◌<◌}
use native.Mathlib.Decide.{ℕ_discrete, dec_lt}
use native.Mathlib.Omega.{arith}
use mathlib.Core.Path.{◌≡◌, refl}
use mathlib.Core.Bool.{Bool, true, false, cond}
use mathlib.Core.List.{[], List, ◌∷◌}
use Rattle.std.specs.Prelude.{Option, Some, None}
use lib.ListN.{length, get_or, set}
use lib.Seq.{get_or-set_same, get_or-set_other, set_out}
use Rattle.base.specs.Lists.{all, steps}
use Rattle.oce_model.specs.Attributes.{no_attrs}
use Rattle.oce_model.specs.declared.Attrs.{Attrs}
use Rattle.oce_model.specs.Model.{Model}
use Rattle.unify.specs.Clusters.{driven, is_root}
use Rattle.unify.specs.Details.{bit_of, unified_details}
use Rattle.unify.specs.Slots.{Slots, agree, put, slot, slots_of, value}
use Rattle.unify.specs.Unify.{cons?, declarations, fill, fill_details, fill_root, filled_to, put_members, settle}
use Rattle.unify.specs.declared.Detail.{Detail}

-- also of the attributes that stand for a slot that isn't there
pub record All (P : Attrs → Type 0) (σ : Slots) : Type 0 where
  pub at : (i : ℕ) → P (slot σ i)

module _ (P : Attrs → Type 0) (Ok : ℕ → ℕ → Type 0)
    (put_Keeps : (d : Detail) (v : ℕ) (a : Attrs) → Ok (bit_of d) v → P a → P (put d v a))
    (value-ok : (d : Detail) (v : ℕ) (a : Attrs) → P a → value d a ≡ Some v → Ok (bit_of d) v) where
  set_keeps : (σ : Slots) (j : ℕ) (x : Attrs) → All P σ → P x → All P (set σ j x)
  unfolding slot
  set_keeps σ j x c k = record { at = λ i. arm i (ℕ_discrete i j) (dec_lt j (length σ)) }
    where
      arm : (i : ℕ) → Dec (i ≡ j) → Dec (j < length σ) → P (get_or (set σ j x) i no_attrs)
      arm i (no n) l = rw (get_or-set_other σ j i x no_attrs n) (c.at i)
      arm i (yes e) (yes l) = rw (e, get_or-set_same σ j x no_attrs l) k
      arm i (yes e) (no l) = rw (set_out σ j x (omega arith)) (c.at i)

  put_members-keeps : (d : Detail) (v : ℕ) → Ok (bit_of d) v → (js : List ℕ) (σ : Slots) → All P σ → All P (put_members d v js σ)
  unfolding put_members
  put_members-keeps d v l [] σ c = c
  put_members-keeps d v l (j ∷ js) σ c = put_members-keeps d v l js (set σ j (put d v (slot σ j))) (set_keeps σ j (put d v (slot σ j)) c (put_Keeps d v (slot σ j) l (c.at j)))

  -- the first declared value is a member's
  declared-ok : (d : Detail) (v : ℕ) (vs js : List ℕ) (σ : Slots) → All P σ → declarations d σ js ≡ v ∷ vs → Ok (bit_of d) v
  unfolding declarations
  declared-ok d v vs [] σ c h = absurd (let z : ◌≡◌ {A = ℕ} 0 1 = cc in omega arith)
  declared-ok d v vs (j ∷ js) σ c h = arm (value d (slot σ j)) refl h (declared-ok d v vs js σ c)
    where
      arm : (o : Option ℕ) → value d (slot σ j) ≡ o → cons? o (declarations d σ js) ≡ v ∷ vs → (declarations d σ js ≡ v ∷ vs → Ok (bit_of d) v) → Ok (bit_of d) v
      arm None e h ih = ih h
      arm (Some u) e h ih = let q : u ≡ v = cc in rw q at (value-ok d u (slot σ j) (c.at j) e)

  fill-keeps : (ts : List (List ℕ)) (js : List ℕ) (d : Detail) (σ : Slots) → All P σ → All P (fill ts js d σ)
  unfolding fill settle
  fill-keeps ts js d σ c = go (declarations d σ js) refl
    where
      arm : (v : ℕ) → Ok (bit_of d) v → (b : Bool) → All P (cond b (put_members d v js σ) σ)
      arm v l true = put_members-keeps d v l js σ c
      arm v l false = c

      go : (vs : List ℕ) → declarations d σ js ≡ vs → All P (settle ts d vs js σ)
      go [] e = c
      go (v ∷ vs) e = arm v (declared-ok d v vs js σ c e) (all (agree ts d v) vs)

  details-keep : (ts : List (List ℕ)) (js : List ℕ) (ds : List Detail) (σ : Slots) → All P σ → All P (fill_details ts js ds σ)
  unfolding fill_details
  details-keep ts js [] σ c = c
  details-keep ts js (d ∷ ds) σ c = details-keep ts js ds (fill ts js d σ) (fill-keeps ts js d σ c)

  fill_root-keeps : (m : Model) (r : ℕ) (σ : Slots) → All P σ → All P (fill_root m r σ)
  unfolding fill_root
  fill_root-keeps m r σ c = arm (is_root m r)
    where
      arm : (b : Bool) → All P (cond b (fill_details m.texts (r ∷ driven m r) unified_details σ) σ)
      arm true = details-keep m.texts (r ∷ driven m r) unified_details σ c
      arm false = c

  pub filled_to-keeps : (m : Model) (n : ℕ) → All P (slots_of m) → All P (filled_to m n)
  unfolding filled_to steps
  filled_to-keeps m zero c = c
  filled_to-keeps m (suc n) c = fill_root-keeps m n (filled_to m n) (filled_to-keeps m n c)
