-- What `put` leaves alone of attributes, rule 6 leaves alone in every slot.
use Prim.Native.Nat.{ℕ, zero, suc, ◌<◌}
use native.Mathlib.Decide.{ℕ_discrete, dec_lt}
use native.Mathlib.Omega.{arith}
use mathlib.Core.Path.{◌≡◌, refl, ap, ◌∙◌}
use mathlib.Core.Bool.{Bool, true, false, cond}
use mathlib.Core.List.{List, [], ◌∷◌, Memᴰ}
use Rattle.std.specs.Prelude.{Option, Some, None}
use lib.ListN.{length, length-set, get_or, set}
use lib.Seq.{get_or-set_same, get_or-set_other, set_out}
use lib.Dec.{eqb}
use Rattle.base.specs.Lists.{all, steps}
use Rattle.oce_model.specs.Attributes.{declare_at, declared_at, no_attrs}
use Rattle.oce_model.specs.declared.Attrs.{Attrs}
use Rattle.oce_model.specs.Model.{Model, connector_count}
use Rattle.unify.specs.Details.{bit_of, kind_of, unified_details}
use Rattle.unify.specs.Clusters.{driven, is_root}
use Rattle.unify.specs.Slots.{Slots, agree, put, put_at, slot, slots_of}
use Rattle.unify.specs.Unify.{declarations, fill, fill_details, fill_root, filled_slots, filled_to, put_members, settle}
use Rattle.unify.specs.declared.Detail.{Detail}

module _ {X : Type 0} (g : Attrs → X) where
  -- one slot set to attributes that g doesn't tell from its own
  pub set-fixed : (σ : Slots) (j i : ℕ) (x : Attrs) → (j < length σ → g x ≡ g (slot σ j)) → g (slot (set σ j x) i) ≡ g (slot σ i)
  unfolding slot
  set-fixed σ j i x h = arm (ℕ_discrete i j) (dec_lt j (length σ))
    where
      arm : Dec (i ≡ j) → Dec (j < length σ) → g (get_or (set σ j x) i no_attrs) ≡ g (get_or σ i no_attrs)
      arm (no n) l = ap g (get_or-set_other σ j i x no_attrs n)
      arm (yes e) (yes l) = rw (e, get_or-set_same σ j x no_attrs l) (h l)
      arm (yes e) (no l) = rw (set_out σ j x (omega arith))

  module _ (d : Detail) (v : ℕ) (fixed : (a : Attrs) → g (put d v a) ≡ g a) where
    put_members-fixed : (js : List ℕ) (σ : Slots) (i : ℕ) → g (slot (put_members d v js σ) i) ≡ g (slot σ i)
    unfolding put_members
    put_members-fixed [] σ i = refl
    put_members-fixed (j ∷ js) σ i = put_members-fixed js (set σ j (put d v (slot σ j))) i ∙ set-fixed σ j i (put d v (slot σ j)) (λ l. fixed (slot σ j))

  module _ (d : Detail) (fixed : (v : ℕ) (a : Attrs) → g (put d v a) ≡ g a) where
    pub fill-fixed : (ts : List (List ℕ)) (js : List ℕ) (σ : Slots) (i : ℕ) → g (slot (fill ts js d σ) i) ≡ g (slot σ i)
    unfolding fill settle
    fill-fixed ts js σ i = go (declarations d σ js)
      where
        arm : (v : ℕ) (b : Bool) → g (slot (cond b (put_members d v js σ) σ) i) ≡ g (slot σ i)
        arm v true = put_members-fixed d v (fixed v) js σ i
        arm v false = refl

        go : (vs : List ℕ) → g (slot (settle ts d vs js σ) i) ≡ g (slot σ i)
        go [] = refl
        go (v ∷ vs) = arm v (all (agree ts d v) vs)

  -- by a list of details, where `put` leaves it alone for each of them
  pub fill_details-fixed : (ts : List (List ℕ)) (js : List ℕ) (ds : List Detail) → ((d : Detail) → Memᴰ d ds → (v : ℕ) (a : Attrs) → g (put d v a) ≡ g a)
      → (σ : Slots) (i : ℕ) → g (slot (fill_details ts js ds σ) i) ≡ g (slot σ i)
  unfolding fill_details
  fill_details-fixed ts js [] fixed σ i = refl
  fill_details-fixed ts js (d ∷ ds) fixed σ i =
      fill_details-fixed ts js ds (λ e m. fixed e (Memᴰ.tail m)) (fill ts js d σ) i ∙ fill-fixed d (fixed d (Memᴰ.head refl)) ts js σ i

  module _ (fixed : (d : Detail) (v : ℕ) (a : Attrs) → g (put d v a) ≡ g a) where
    fill_root-fixed : (m : Model) (r : ℕ) (σ : Slots) (i : ℕ) → g (slot (fill_root m r σ) i) ≡ g (slot σ i)
    unfolding fill_root
    fill_root-fixed m r σ i = arm (is_root m r)
      where
        arm : (b : Bool) → g (slot (cond b (fill_details m.texts (r ∷ driven m r) unified_details σ) σ) i) ≡ g (slot σ i)
        arm true = fill_details-fixed m.texts (r ∷ driven m r) unified_details (λ d k. fixed d) σ i
        arm false = refl

    pub filled_to-fixed : (m : Model) (n i : ℕ) → g (slot (filled_to m n) i) ≡ g (slot (slots_of m) i)
    unfolding filled_to steps
    filled_to-fixed m zero i = refl
    filled_to-fixed m (suc n) i = fill_root-fixed m n (filled_to m n) i ∙ filled_to-fixed m n i

    pub filled_slots-fixed : (m : Model) (i : ℕ) → g (slot (filled_slots m) i) ≡ g (slot (slots_of m) i)
    unfolding filled_slots
    filled_slots-fixed m i = filled_to-fixed m (connector_count m) i

-- ---- `put` leaves the kind alone, and how many numbers there are

pub put-kind : (d : Detail) (v : ℕ) (a : Attrs) → (put d v a).kind ≡ a.kind
unfolding put declare_at
put-kind d v a = arm (eqb a.kind (kind_of d)) (declared_at a (bit_of d))
  where
    arm : (b : Bool) (o : Option ℕ) → (cond b (put_at (bit_of d) v a o) a).kind ≡ a.kind
    arm false o = refl
    arm true None = refl
    arm true (Some u) = refl

pub put-room : (d : Detail) (v : ℕ) (a : Attrs) → length (put d v a).nums ≡ length a.nums
unfolding put declare_at
put-room d v a = arm (eqb a.kind (kind_of d)) (declared_at a (bit_of d))
  where
    arm : (b : Bool) (o : Option ℕ) → length (cond b (put_at (bit_of d) v a o) a).nums ≡ length a.nums
    arm false o = refl
    arm true None = length-set a.nums (bit_of d) v
    arm true (Some u) = refl
