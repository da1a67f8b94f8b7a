-- What a root's filling reaches: it changes its members' slots alone, and what it gives depends on its members' slots alone.
use Prim.Native.Nat.{ℕ, zero, suc, ◌+◌, ◌≤◌, ◌<◌}
use native.Mathlib.Decide.{ℕ_discrete, dec_lt}
use native.Mathlib.Omega.{arith}
use mathlib.Core.Path.{◌≡◌, refl, sym, ap, ◌∙◌}
use mathlib.Core.Bool.{Bool, true, false, cond}
use mathlib.Core.List.{List, [], ◌∷◌, Memᴰ}
use lib.ListN.{length, get_or, set, length-set}
use lib.Seq.{get_or-set_same, get_or-set_other, set_out}
use Rattle.base.specs.Lists.{all, steps}
use Rattle.oce_model.specs.Attributes.{no_attrs}
use Rattle.oce_model.specs.declared.Attrs.{Attrs}
use Rattle.oce_model.specs.Model.{Model, boundary_output_count, connector_count}
use Rattle.unify.specs.Details.{unified_details}
use Rattle.unify.specs.Clusters.{driven, is_root}
use Rattle.unify.specs.Slots.{Slots, agree, put, slot}
use Rattle.unify.specs.Unify.{cluster_faults, declarations, details_faults, display_faults, fill, fill_details, fill_faults, fill_root, filled_to, put_members, root_faults, settle}
use Rattle.unify.specs.declared.Detail.{Detail}
use Rattle.unify.proofs.Slots.{slots_length}

-- ---- the number of slots

put_members-length : (d : Detail) (v : ℕ) (js : List ℕ) (σ : Slots) → length (put_members d v js σ) ≡ length σ
unfolding put_members
put_members-length d v [] σ = refl
put_members-length d v (j ∷ js) σ = put_members-length d v js (set σ j (put d v (slot σ j))) ∙ length-set σ j (put d v (slot σ j))

settle-length : (ts : List (List ℕ)) (d : Detail) (vs js : List ℕ) (σ : Slots) → length (settle ts d vs js σ) ≡ length σ
unfolding settle
settle-length ts d [] js σ = refl
settle-length ts d (v ∷ vs) js σ = arm (all (agree ts d v) vs)
  where
    arm : (b : Bool) → length (cond b (put_members d v js σ) σ) ≡ length σ
    arm true = put_members-length d v js σ
    arm false = refl

-- A detail keeps the number of slots.
pub fill-length : (ts : List (List ℕ)) (js : List ℕ) (d : Detail) (σ : Slots) → length (fill ts js d σ) ≡ length σ
unfolding fill
fill-length ts js d σ = settle-length ts d (declarations d σ js) js σ

-- So does a list of details.
pub fill_details-length : (ts : List (List ℕ)) (js : List ℕ) (ds : List Detail) (σ : Slots) → length (fill_details ts js ds σ) ≡ length σ
unfolding fill_details
fill_details-length ts js [] σ = refl
fill_details-length ts js (d ∷ ds) σ = fill_details-length ts js ds (fill ts js d σ) ∙ fill-length ts js d σ

-- So does a root.
pub fill_root-length : (m : Model) (r : ℕ) (σ : Slots) → length (fill_root m r σ) ≡ length σ
unfolding fill_root
fill_root-length m r σ = arm (is_root m r)
  where
    arm : (b : Bool) → length (cond b (fill_details m.texts (r ∷ driven m r) unified_details σ) σ) ≡ length σ
    arm true = fill_details-length m.texts (r ∷ driven m r) unified_details σ
    arm false = refl

-- So does any number of roots.
pub filled_to-length : (m : Model) (n : ℕ) → length (filled_to m n) ≡ connector_count m + boundary_output_count m
unfolding filled_to steps
filled_to-length m zero = slots_length m
filled_to-length m (suc n) = fill_root-length m n (filled_to m n) ∙ filled_to-length m n

-- ---- what is no member stays

put_members-other : (d : Detail) (v : ℕ) (js : List ℕ) (σ : Slots) (i : ℕ) → (Memᴰ i js → ⊥) → slot (put_members d v js σ) i ≡ slot σ i
unfolding put_members slot
put_members-other d v [] σ i n = refl
put_members-other d v (j ∷ js) σ i n =
    put_members-other d v js (set σ j (put d v (slot σ j))) i (λ h. n (Memᴰ.tail h))
    ∙ get_or-set_other σ j i (put d v (slot σ j)) no_attrs (λ e. n (Memᴰ.head e))

-- A detail leaves every slot that is no member.
pub fill-other : (ts : List (List ℕ)) (js : List ℕ) (d : Detail) (σ : Slots) (i : ℕ) → (Memᴰ i js → ⊥) → slot (fill ts js d σ) i ≡ slot σ i
unfolding fill settle
fill-other ts js d σ i n = go (declarations d σ js)
  where
    arm : (v : ℕ) (b : Bool) → slot (cond b (put_members d v js σ) σ) i ≡ slot σ i
    arm v true = put_members-other d v js σ i n
    arm v false = refl

    go : (vs : List ℕ) → slot (settle ts d vs js σ) i ≡ slot σ i
    go [] = refl
    go (v ∷ vs) = arm v (all (agree ts d v) vs)

-- So does a list of details.
pub fill_details-other : (ts : List (List ℕ)) (js : List ℕ) (ds : List Detail) (σ : Slots) (i : ℕ) → (Memᴰ i js → ⊥) → slot (fill_details ts js ds σ) i ≡ slot σ i
unfolding fill_details
fill_details-other ts js [] σ i h = refl
fill_details-other ts js (d ∷ ds) σ i h = fill_details-other ts js ds (fill ts js d σ) i h ∙ fill-other ts js d σ i h

-- A root's filling changes its members' slots alone; a connector that is no root changes none.
pub fill_root-other : (m : Model) (r : ℕ) (σ : Slots) (i : ℕ) → (is_root m r ≡ true → Memᴰ i (r ∷ driven m r) → ⊥) → slot (fill_root m r σ) i ≡ slot σ i
unfolding fill_root
fill_root-other m r σ i h = arm (is_root m r) refl
  where
    arm : (b : Bool) → is_root m r ≡ b → slot (cond b (fill_details m.texts (r ∷ driven m r) unified_details σ) σ) i ≡ slot σ i
    arm true e = fill_details-other m.texts (r ∷ driven m r) unified_details σ i (h e)
    arm false e = refl

-- One root more.
pub filled_to-suc : (m : Model) (n : ℕ) → filled_to m (suc n) ≡ fill_root m n (filled_to m n)
unfolding filled_to steps
filled_to-suc m n = refl

-- The roots from q up to n leave every slot that is a member of none of them.
pub between : (m : Model) (q n i : ℕ) → q ≤ n → ((r : ℕ) → q ≤ r → r < n → is_root m r ≡ true → Memᴰ i (r ∷ driven m r) → ⊥) → slot (filled_to m n) i ≡ slot (filled_to m q) i
between m q zero i l h = let e : zero ≡ q = omega arith in ap (λ n. slot (filled_to m n) i) e
between m q (suc n) i l h = arm (ℕ_discrete q (suc n)) (between m q n i)
  where
    arm : Dec (q ≡ suc n) → (q ≤ n → ((r : ℕ) → q ≤ r → r < n → is_root m r ≡ true → Memᴰ i (r ∷ driven m r) → ⊥) → slot (filled_to m n) i ≡ slot (filled_to m q) i) → slot (filled_to m (suc n)) i ≡ slot (filled_to m q) i
    arm (yes e) ih = ap (λ n. slot (filled_to m n) i) (sym e)
    arm (no e) ih =
        ap (λ σ. slot σ i) (filled_to-suc m n) ∙ fill_root-other m n (filled_to m n) i (h n (omega arith) (omega arith)) ∙ ih (omega arith) (λ r a b. h r a (omega arith))

-- ---- what is given depends on the members alone

-- Two lists of as many slots that have the same slots for the members js.
pub record AlikeAt (js : List ℕ) (σ τ : Slots) : Type 0 where
  pub long : length σ ≡ length τ
  pub at : (j : ℕ) → Memᴰ j js → slot σ j ≡ slot τ j

set-alike : (ks : List ℕ) (σ τ : Slots) (j : ℕ) (x : Attrs) → AlikeAt ks σ τ → AlikeAt ks (set σ j x) (set τ j x)
unfolding slot
set-alike ks σ τ j x w = record { long = length-set σ j x ∙ w.long ∙ sym (length-set τ j x); at = λ i h. arm i h (ℕ_discrete i j) (dec_lt j (length σ)) }
  where
    arm : (i : ℕ) → Memᴰ i ks → Dec (i ≡ j) → Dec (j < length σ) → get_or (set σ j x) i no_attrs ≡ get_or (set τ j x) i no_attrs
    arm i h (no n) l = get_or-set_other σ j i x no_attrs n ∙ w.at i h ∙ sym (get_or-set_other τ j i x no_attrs n)
    arm i h (yes e) (yes l) =
        let k : j < length τ = rw w.long at l in
        rw (e, get_or-set_same σ j x no_attrs l, get_or-set_same τ j x no_attrs k)
    arm i h (yes e) (no l) =
        let k : length τ ≤ j = let z = w.long in omega arith in
        rw (set_out σ j x (omega arith), set_out τ j x k) (w.at i h)

put_members-alike : (ks : List ℕ) (d : Detail) (v : ℕ) (js : List ℕ) → ((j : ℕ) → Memᴰ j js → Memᴰ j ks)
    → (σ τ : Slots) → AlikeAt ks σ τ → AlikeAt ks (put_members d v js σ) (put_members d v js τ)
unfolding put_members
put_members-alike ks d v [] inside σ τ w = w
put_members-alike ks d v (j ∷ js) inside σ τ w =
    put_members-alike ks d v js (λ i h. inside i (Memᴰ.tail h)) (set σ j (put d v (slot σ j))) (set τ j (put d v (slot τ j)))
    (rw (w.at j (inside j (Memᴰ.head refl))) (set-alike ks σ τ j (put d v (slot τ j)) w))

declarations-at : (d : Detail) (σ τ : Slots) (js : List ℕ) → ((j : ℕ) → Memᴰ j js → slot σ j ≡ slot τ j) → declarations d σ js ≡ declarations d τ js
unfolding declarations
declarations-at d σ τ [] h = refl
declarations-at d σ τ (j ∷ js) h = rw (h j (Memᴰ.head refl), declarations-at d σ τ js (λ i k. h i (Memᴰ.tail k)))

module _ (js : List ℕ) where
  -- What members declare depends on their slots alone.
  pub declarations-alike : (d : Detail) (σ τ : Slots) → AlikeAt js σ τ → declarations d σ js ≡ declarations d τ js
  declarations-alike d σ τ w = declarations-at d σ τ js w.at

  -- So does what a detail fills into them.
  pub fill-alike : (ts : List (List ℕ)) (d : Detail) (σ τ : Slots) → AlikeAt js σ τ → AlikeAt js (fill ts js d σ) (fill ts js d τ)
  unfolding fill settle
  fill-alike ts d σ τ w = rw (declarations-alike d σ τ w) (go (declarations d τ js))
    where
      arm : (v : ℕ) (b : Bool) → AlikeAt js (cond b (put_members d v js σ) σ) (cond b (put_members d v js τ) τ)
      arm v true = put_members-alike js d v js (λ j h. h) σ τ w
      arm v false = w

      go : (vs : List ℕ) → AlikeAt js (settle ts d vs js σ) (settle ts d vs js τ)
      go [] = w
      go (v ∷ vs) = arm v (all (agree ts d v) vs)

  -- So does what a list of details fills into them.
  pub fill_details-alike : (ts : List (List ℕ)) (ds : List Detail) (σ τ : Slots) → AlikeAt js σ τ → AlikeAt js (fill_details ts js ds σ) (fill_details ts js ds τ)
  unfolding fill_details
  fill_details-alike ts [] σ τ w = w
  fill_details-alike ts (d ∷ ds) σ τ w = fill_details-alike ts ds (fill ts js d σ) (fill ts js d τ) (fill-alike ts d σ τ w)

  module _ (m : Model) (r : ℕ) where
    fill_faults-alike : (d : Detail) (σ τ : Slots) → AlikeAt js σ τ → fill_faults m r js d σ ≡ fill_faults m r js d τ
    unfolding fill_faults
    fill_faults-alike d σ τ w = rw (declarations-alike d σ τ w)

    display_faults-alike : (σ τ : Slots) → AlikeAt js σ τ → display_faults m r js σ ≡ display_faults m r js τ
    unfolding display_faults
    display_faults-alike σ τ w = rw (declarations-alike _ σ τ w)

    details_faults-alike : (ds : List Detail) (σ τ : Slots) → AlikeAt js σ τ → details_faults m r js ds σ ≡ details_faults m r js ds τ
    unfolding details_faults
    details_faults-alike [] σ τ w = refl
    details_faults-alike (d ∷ ds) σ τ w = rw (fill_faults-alike d σ τ w, details_faults-alike ds (fill m.texts js d σ) (fill m.texts js d τ) (fill-alike m.texts d σ τ w))

    -- So does what a cluster reports.
    pub cluster_faults-alike : (σ τ : Slots) → AlikeAt js σ τ → cluster_faults m r js σ ≡ cluster_faults m r js τ
    unfolding cluster_faults
    cluster_faults-alike σ τ w =
        rw (
          details_faults-alike unified_details σ τ w,
          display_faults-alike (fill_details m.texts js unified_details σ) (fill_details m.texts js unified_details τ) (fill_details-alike m.texts unified_details σ τ w),
        )

module _ (m : Model) (r : ℕ) (σ τ : Slots) (w : AlikeAt (r ∷ driven m r) σ τ) where
  -- A root fills its members' slots alike where it finds them alike, whatever the other slots are.
  pub fill_root-alike : AlikeAt (r ∷ driven m r) (fill_root m r σ) (fill_root m r τ)
  unfolding fill_root
  fill_root-alike = arm (is_root m r)
    where
      arm : (b : Bool)
          → AlikeAt (r ∷ driven m r) (cond b (fill_details m.texts (r ∷ driven m r) unified_details σ) σ) (cond b (fill_details m.texts (r ∷ driven m r) unified_details τ) τ)
      arm true = fill_details-alike (r ∷ driven m r) m.texts unified_details σ τ w
      arm false = w

  -- And then it reports the same.
  pub root_faults-alike : root_faults m r σ ≡ root_faults m r τ
  unfolding root_faults
  root_faults-alike = rw (cluster_faults-alike (r ∷ driven m r) m r σ τ w)
