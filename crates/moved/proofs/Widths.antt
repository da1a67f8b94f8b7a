-- The slots of a model are its connectors' and boundary outputs' attributes: six numbers, each of its width. The image has it so, and rule 6 keeps it.
use Prim.Native.Nat.{ℕ, ◌+◌, ◌-◌, ◌≤◌, ◌<◌}
use native.Mathlib.Decide.{ℕ_discrete, dec_lt}
use native.Mathlib.Omega.{arith}
use mathlib.Core.Path.{◌≡◌, refl, ap, ◌∙◌}
use mathlib.Core.Bool.{Bool, true, false, cond}
use mathlib.Core.List.{List}
use Rattle.std.specs.Prelude.{Option, Some, None}
use Rattle.base.proofs.Options.{none-ne-some}
use lib.ListN.{length, get_or, set, get_or-eq_default}
use lib.Seq.{get_or-set_same, get_or-set_other, set_out}
use lib.Dec.{eqb}
use Rattle.numbers.specs.Bytes.{bit}
use Rattle.oce_model.specs.Format.{boundary_output_tag, connector_attrs, connector_tag}
use Rattle.oce_model.specs.Attributes.{attrs_at, declare_at, declared_at, marked, no_attrs, num}
use Rattle.oce_model.specs.declared.Attrs.{Attrs}
use Rattle.oce_model.specs.Model.{Model, boundary_output_at, boundary_output_count, connector_at, connector_count, model_of}
use Rattle.unify.specs.Details.{bit_of, kind_of}
use Rattle.unify.specs.Slots.{Slots, put, put_at, slot, slots_of, value}
use Rattle.unify.specs.Unify.{filled_to}
use Rattle.unify.specs.declared.Detail.{Detail}
use Rattle.unify.proofs.Slots.{slot-connector, slot-out, slots_length}
use Rattle.moved.proofs.Bytes.{Bytes}
use Rattle.oce_model.proofs.Accepted.{connector-is, output-is}
use Rattle.oce_model.proofs.Attributes.{Caps, at-caps, cap, no-caps}
use Rattle.oce_model.proofs.Fields.{nth}
use Rattle.moved.proofs.Invariants.{All, filled_to-keeps}
use Rattle.moved.proofs.OneDetail.{Roomy}

-- ---- each number has its width

put-caps : (d : Detail) (v : ℕ) (a : Attrs) → v < cap (bit_of d) → Caps a → Caps (put d v a)
unfolding put declare_at
put-caps d v a l c = arm (eqb a.kind (kind_of d)) (declared_at a (bit_of d))
  where
    at : ℕ
    at = bit_of d

    new : (q : ℕ) → Dec (q ≡ at) → Dec (at < length a.nums) → get_or (set a.nums at v) q 0 < cap q
    new q (no n) k = rw (get_or-set_other a.nums at q v 0 n) (c.at q)
    new q (yes e) (yes k) = rw (e, get_or-set_same a.nums at v 0 k) l
    new q (yes e) (no k) = rw (set_out a.nums at v (omega arith)) (c.at q)

    arm : (b : Bool) (o : Option ℕ) → Caps (cond b (put_at at v a o) a)
    arm false o = c
    arm true (Some u) = c
    arm true None = record { at = λ q. new q (ℕ_discrete q at) (dec_lt at (length a.nums)) }

abbrev pub AllCaps : Slots → Type 0
AllCaps = All Caps

value-cap : (d : Detail) (v : ℕ) (a : Attrs) → Caps a → value d a ≡ Some v → v < cap (bit_of d)
unfolding value declared_at
value-cap d v a c h = arm (eqb a.kind (kind_of d)) (bit a.marks (bit_of d)) h
  where
    arm : (b t : Bool) → cond b (marked t (num a (bit_of d))) None ≡ Some v → v < cap (bit_of d)
    arm false t h = absurd (none-ne-some v h)
    arm true false h = absurd (none-ne-some v h)
    arm true true h = let e : num a (bit_of d) ≡ v = cc in rw e at (c.at (bit_of d))

pub filled_to-caps : (m : Model) (n : ℕ) → AllCaps (slots_of m) → AllCaps (filled_to m n)
filled_to-caps = filled_to-keeps Caps (λ p v. v < cap p) put-caps value-cap

con-caps : (s : List ℕ) (at : ℕ) → Bytes s → Caps (connector_at s at).attrs
unfolding connector_at
con-caps s at h = at-caps s (at + connector_attrs) h

out-caps : (s : List ℕ) (at : ℕ) → Bytes s → Caps (boundary_output_at s at).attrs
unfolding boundary_output_at
out-caps s at h = at-caps s (at + 9) h

slot-beyond : (m : Model) (i : ℕ) → length (slots_of m) ≤ i → slot (slots_of m) i ≡ no_attrs
unfolding slot
slot-beyond m i l = get_or-eq_default (slots_of m) no_attrs l

-- what the attributes of all records have, all slots have
pub all_slots : (P : Attrs → Type 0) (s : List ℕ) → P no_attrs → ((i : ℕ) → i < connector_count (model_of s) → P (connector_at s (nth connector_tag s i).at).attrs)
    → ((i : ℕ) → i < boundary_output_count (model_of s) → P (boundary_output_at s (nth boundary_output_tag s i).at).attrs) → All P (slots_of (model_of s))
all_slots P s absent con out = record { at = λ i. arm i (dec_lt i (connector_count m)) (dec_lt (i - connector_count m) (boundary_output_count m)) }
  where
    m : Model
    m = model_of s

    arm : (i : ℕ) → Dec (i < connector_count m) → Dec (i - connector_count m < boundary_output_count m) → P (slot (slots_of m) i)
    arm i (yes l) k = rw (slot-connector m i l, connector-is s i l) (con i l)
    arm i (no l) (yes k) =
        let e : i ≡ connector_count m + (i - connector_count m) = omega arith in
        rw (ap (slot (slots_of m)) e ∙ slot-out m (i - connector_count m), output-is s (i - connector_count m) k) (out (i - connector_count m) k)
    arm i (no l) (no k) = rw (slot-beyond m i (omega (arith, slots_length m))) absent

pub image-caps : (s : List ℕ) → Bytes s → AllCaps (slots_of (model_of s))
image-caps s bytes = all_slots Caps s no-caps (λ i l. con-caps s (nth connector_tag s i).at bytes) (λ i l. out-caps s (nth boundary_output_tag s i).at bytes)

-- ---- six numbers

six-at : (s : List ℕ) (at : ℕ) → (length (connector_at s at).attrs.nums ≡ 6) × (length (boundary_output_at s at).attrs.nums ≡ 6)
unfolding connector_at boundary_output_at attrs_at
six-at s at = (refl, refl)

pub six-numbers : (s : List ℕ) (i : ℕ) → i < connector_count (model_of s) + boundary_output_count (model_of s) → length (slot (slots_of (model_of s)) i).nums ≡ 6
six-numbers s i l = arm (dec_lt i (connector_count m))
  where
    m : Model
    m = model_of s

    arm : Dec (i < connector_count m) → length (slot (slots_of m) i).nums ≡ 6
    arm (yes k) = rw (slot-connector m i k, connector-is s i k) (six-at s (nth connector_tag s i).at).0
    arm (no k) =
        let e : i ≡ connector_count m + (i - connector_count m) = omega arith in
        rw (ap (slot (slots_of m)) e ∙ slot-out m (i - connector_count m), output-is s (i - connector_count m) (omega arith)) (six-at s (nth boundary_output_tag s (i - connector_count m)).at).1

pub image-roomy : (s : List ℕ) → Roomy (slots_of (model_of s))
image-roomy s = record { at = λ i l. let e = six-numbers s i (rw (slots_length (model_of s)) at l) in omega arith }
