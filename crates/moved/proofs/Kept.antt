-- Rule 6 changes no declared attribute: what a slot declares in the image, it declares likewise after every root.
use Prim.Native.Nat.{ℕ, zero, suc, ◌≤◌, ◌<◌}
use native.Mathlib.Decide.{ℕ_discrete, dec_lt}
use native.Mathlib.Omega.{arith}
use mathlib.Core.Path.{◌≡◌, refl, sym, ap, ◌∙◌}
use mathlib.Core.Logic.{◌≢◌}
use mathlib.Core.Bool.{Bool, true, false, cond}
use mathlib.Core.List.{List, [], ◌∷◌}
use Rattle.std.specs.Prelude.{Option, Some, None}
use Rattle.base.proofs.Options.{none-ne-some}
use lib.ListN.{length, get_or, set}
use lib.Seq.{get_or-set_same, get_or-set_other, set_out}
use lib.Dec.{eqb}
use Rattle.base.specs.Lists.{all, steps}
use Rattle.numbers.specs.Bytes.{bit}
use Rattle.oce_model.specs.Attributes.{declare_at, declared_at, no_attrs}
use Rattle.oce_model.specs.declared.Attrs.{Attrs}
use Rattle.oce_model.specs.Model.{Model, connector_count}
use Rattle.unify.specs.Clusters.{driven, is_root}
use Rattle.unify.specs.Details.{bit_of, kind_of, unified_details}
use Rattle.unify.specs.Slots.{Slots, agree, put, put_at, slot, slots_of}
use Rattle.unify.specs.Unify.{declarations, fill, fill_details, fill_root, filled_slots, filled_to, put_members, settle}
use Rattle.unify.specs.declared.Detail.{Detail}
use Rattle.unify.proofs.Details.{bit_of-lt}
use Rattle.unify.proofs.Declared.{unmarked, declare_at-kind, declare_at-other}
use Rattle.moved.specs.Moved.{Kept}
use Rattle.numbers.proofs.Bits.{bit-other}

pub Kept-refl : (a : Attrs) → Kept a a
Kept-refl a = record { kind = refl; unbounded = (refl, refl); vals = λ p v h. h }

pub Kept-trans : {a b c : Attrs} → Kept a b → Kept b c → Kept a c
Kept-trans h k = record {
  kind = k.kind ∙ h.kind;
  unbounded = (k.unbounded.0 ∙ h.unbounded.0, k.unbounded.1 ∙ h.unbounded.1);
  vals = λ p v e. k.vals p v (h.vals p v e);
}

declare_at-bit : (a : Attrs) (p q v : ℕ) → declared_at a p ≡ None → q ≢ p → bit (declare_at a p v).marks q ≡ bit a.marks q
unfolding declare_at
declare_at-bit a p q v h n = bit-other a.marks p q (unmarked a p h) n

put_at-kept : (p v : ℕ) (a : Attrs) → p < 6 → (o : Option ℕ) → declared_at a p ≡ o → Kept a (put_at p v a o)
put_at-kept p v a l (Some u) e = Kept-refl a
put_at-kept p v a l None e = record {
  kind = with-kind;
  unbounded = (upper 6 (omega arith), upper 7 (omega arith));
  vals = λ q u h. other q u h (ℕ_discrete q p);
}
  where
    with-kind : (declare_at a p v).kind ≡ a.kind
    with-kind = declare_at-kind a p v

    upper : (q : ℕ) → 6 ≤ q → bit (declare_at a p v).marks q ≡ bit a.marks q
    upper q k = declare_at-bit a p q v e (omega arith)

    other : (q u : ℕ) → declared_at a q ≡ Some u → Dec (q ≡ p) → declared_at (declare_at a p v) q ≡ Some u
    other q u h (yes i) = absurd (none-ne-some u (sym e ∙ ap (declared_at a) (sym i) ∙ h))
    other q u h (no n) = declare_at-other a p q v e n ∙ h

cond-kept : (t : Bool) (a b c : Attrs) → Kept a b → Kept a c → Kept a (cond t b c)
cond-kept true a b c h k = h
cond-kept false a b c h k = k

pub put-kept : (d : Detail) (v : ℕ) (a : Attrs) → Kept a (put d v a)
unfolding put
put-kept d v a = cond-kept (eqb a.kind (kind_of d)) a _ a (put_at-kept (bit_of d) v a (bit_of-lt d) (declared_at a (bit_of d)) refl) (Kept-refl a)

-- ---- each slot keeps what it declares

pub record Later (σ τ : Slots) : Type 0 where
  pub at : (i : ℕ) → Kept (slot σ i) (slot τ i)

pub later_refl : (σ : Slots) → Later σ σ
later_refl σ = record { at = λ i. Kept-refl (slot σ i) }

pub later_trans : {σ τ υ : Slots} → Later σ τ → Later τ υ → Later σ υ
later_trans h k = record { at = λ i. Kept-trans (h.at i) (k.at i) }

set-later : (σ : Slots) (j : ℕ) (x : Attrs) → Kept (slot σ j) x → Later σ (set σ j x)
unfolding slot
set-later σ j x h = record { at = λ i. same i (ℕ_discrete i j) (dec_lt j (length σ)) }
  where
    same : (i : ℕ) → Dec (i ≡ j) → Dec (j < length σ) → Kept (get_or σ i no_attrs) (get_or (set σ j x) i no_attrs)
    same i (no n) d = rw (get_or-set_other σ j i x no_attrs n) (Kept-refl _)
    same i (yes e) (yes l) = rw (e, get_or-set_same σ j x no_attrs l) h
    same i (yes e) (no l) = rw (set_out σ j x (omega arith)) (Kept-refl _)

pub put_members-later : (d : Detail) (v : ℕ) (js : List ℕ) (σ : Slots) → Later σ (put_members d v js σ)
unfolding put_members
put_members-later d v [] σ = later_refl σ
put_members-later d v (j ∷ js) σ = later_trans (set-later σ j _ (put-kept d v (slot σ j))) (put_members-later d v js _)

settle-later : (ts : List (List ℕ)) (d : Detail) (vs js : List ℕ) (σ : Slots) → Later σ (settle ts d vs js σ)
unfolding settle
settle-later ts d [] js σ = later_refl σ
settle-later ts d (v ∷ vs) js σ = arm (all (agree ts d v) vs)
  where
    arm : (b : Bool) → Later σ (cond b (put_members d v js σ) σ)
    arm true = put_members-later d v js σ
    arm false = later_refl σ

fill-later : (ts : List (List ℕ)) (js : List ℕ) (d : Detail) (σ : Slots) → Later σ (fill ts js d σ)
unfolding fill
fill-later ts js d σ = settle-later ts d (declarations d σ js) js σ

details-later : (ts : List (List ℕ)) (js : List ℕ) (ds : List Detail) (σ : Slots) → Later σ (fill_details ts js ds σ)
unfolding fill_details
details-later ts js [] σ = later_refl σ
details-later ts js (d ∷ ds) σ = later_trans (fill-later ts js d σ) (details-later ts js ds (fill ts js d σ))

fill_root-later : (m : Model) (r : ℕ) (σ : Slots) → Later σ (fill_root m r σ)
unfolding fill_root
fill_root-later m r σ = arm (is_root m r)
  where
    arm : (b : Bool) → Later σ (cond b (fill_details m.texts (r ∷ driven m r) unified_details σ) σ)
    arm true = details-later m.texts (r ∷ driven m r) unified_details σ
    arm false = later_refl σ

filled_to-later : (m : Model) (n : ℕ) → Later (slots_of m) (filled_to m n)
unfolding filled_to steps
filled_to-later m zero = later_refl (slots_of m)
filled_to-later m (suc n) = later_trans (filled_to-later m n) (fill_root-later m n (filled_to m n))

pub filled_slots-later : (m : Model) → Later (slots_of m) (filled_slots m)
unfolding filled_slots
filled_slots-later m = filled_to-later m (connector_count m)
