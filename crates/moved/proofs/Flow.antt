-- Values that run through a model without errors, over its filled slots: what arrives at an input and at a boundary output, and that there is a choice of values.
use Prim.Native.Nat.{ℕ, ◌+◌, ◌^◌, ◌≤◌, ◌<◌}
use native.Mathlib.Omega.{arith}
use mathlib.Core.Path.{◌≡◌, refl, sym, ap, ◌∙◌}
use mathlib.Core.Logic.{◌≢◌}
use mathlib.Core.Bool.{Bool, true, false, not, ◌&&◌, ◌||◌, true≢false, or-true}
use mathlib.Core.List.{[], ◌∷◌, Memᴰ}
use Rattle.std.specs.Prelude.{None}
use lib.Dec.{eqb, ltb}
use lib.Signed.{mag}
use borrow.Author.Tests.{eqb-true, ltb-true, lt-ltb, eq-eqb, ne_eqb, not-true}
use Rattle.base.specs.Lists.{below, only, steps}
use Rattle.oce_model.specs.Format.{enum_kind, quantity_bit, real_kind, unit_bit}
use Rattle.oce_model.specs.Attributes.{declared_at}
use Rattle.oce_model.specs.declared.Attrs.{Attrs}
use Rattle.oce_model.specs.Model.{Connector, Model, boundary_output, boundary_output_count, connection, connection_count, connector, connector_count, is_in}
use Rattle.crossed_bounds.specs.Ranges.{crossed, range_of}
use Rattle.crossed_bounds.specs.Values.{Datum, inside, of_kind, of_type}
use Rattle.unify.specs.Clusters.{driven, is_root}
use Rattle.unify.specs.Slots.{slot, slots_of}
use Rattle.unify.specs.Unify.{filled_slots, filled_to}
use Rattle.moved.specs.Moved.{OfTypes, alike_units, arrivals, chosen, connected, delivered}
use Rattle.base.proofs.Lists.{and_parts, below-some}
use Rattle.base.proofs.Members.{below-found, each-only}
use Rattle.moved.proofs.Clusters.{alone, driven-root, from-lt, one-wire, out-driven, source-kind, source-lt, source-out, to-lt, wire-driven}
use Rattle.moved.proofs.OneDetail.{Roomy}
use Rattle.moved.proofs.SameRange.{OneKey, same-inside, same_units}
use Rattle.unify.proofs.Fixed.{filled_slots-fixed, put-kind}
use Rattle.unify.proofs.Local.{between}
use Rattle.unify.proofs.Slots.{slot-connector, slot-out}
use Rattle.moved.proofs.Settled.{one_key}
use Rattle.moved.proofs.SomeValue.{pick, pick-fits}
use Rattle.moved.proofs.Stars.{Quiet, Stars}

-- ---- inputs with and without a connection

connected-by : (m : Model) (i : ℕ) → connected m i ≡ true → (k : ℕ) × (k < connection_count m) × ((connection m k).to ≡ i)
unfolding connected
connected-by m i h =
    let p = below-found (connection_count m) (λ k. eqb (connection m k).to i) h in
    (p.0, p.1, eqb-true _ i p.2)

free-chosen : (m : Model) (i : ℕ) → i < connector_count m → connected m i ≡ false → chosen m i ≡ true
unfolding chosen
free-chosen m i l h = rw (lt-ltb _ _ l, h) (or-true (not (is_in (connector m i))))

free-arrives : (m : Model) (x : ℕ → Datum) (i : ℕ) → connected m i ≡ false → arrivals m x i ≡ x i ∷ []
unfolding arrivals
free-arrives m x i h = rw h

pub chosen-lt : (m : Model) (i : ℕ) → chosen m i ≡ true → i < connector_count m
unfolding chosen
chosen-lt m i c = ltb-true _ _ (and_parts _ _ c).0

-- a slot that belongs to no cluster stays as it was
unclustered : (m : Model) (i : ℕ) → ((r : ℕ) → is_root m r ≡ true → Memᴰ i (r ∷ driven m r) → ⊥) → slot (filled_slots m) i ≡ slot (slots_of m) i
unfolding filled_slots filled_to steps
unclustered m i h = between m 0 (connector_count m) i (omega arith) (λ r a b. h r)

module _ (m : Model) (stars : Stars m) (quiet : Quiet m) (kinds : OfTypes m) (room : Roomy (slots_of m)) where
  -- ---- one range and alike texts along each connection

  slot-kind : (i : ℕ) → i < connector_count m → (slot (slots_of m) i).kind ≡ (connector m i).value_type
  slot-kind i l = ap (λ (a : Attrs). a.kind) (slot-connector m i l) ∙ kinds i l

  out-kind : (i : ℕ) → i < boundary_output_count m → (slot (slots_of m) (connector_count m + i)).kind ≡ (connector m (boundary_output m i).source).value_type
  out-kind i l = ap (λ (a : Attrs). a.kind) (slot-out m i) ∙ source-kind m stars i l

  pub filled-kind : (i : ℕ) → i < connector_count m → (slot (filled_slots m) i).kind ≡ (connector m i).value_type
  filled-kind i l = filled_slots-fixed (λ a. a.kind) put-kind m i ∙ slot-kind i l

  members-key : (r i j : ℕ) → r < connector_count m → is_root m r ≡ true → Memᴰ i (r ∷ driven m r) → Memᴰ j (r ∷ driven m r)
      → i < connector_count m + boundary_output_count m → j < connector_count m + boundary_output_count m → (slot (slots_of m) i).kind ≡ (slot (slots_of m) j).kind → OneKey m (slot (filled_slots m) i) (slot (filled_slots m) j)
  members-key r i j l e a b p q k =
      let f = filled_slots-fixed (λ a. a.kind) put-kind m i in
      let g = filled_slots-fixed (λ a. a.kind) put-kind m j in
      record {
        kind = f ∙ k ∙ sym g;
        keys = λ d o h. one_key m stars quiet room r l e d o i j a b p q (sym f ∙ h) (sym k ∙ sym f ∙ h);
      }

  pub same-type : (k : ℕ) → k < connection_count m → (connector m (connection m k).from).value_type ≡ (connector m (connection m k).to).value_type
  same-type k l = eqb-true _ _ (and_parts _ _ (stars.wires k l).alike).0

  pub same_class : (k : ℕ) → k < connection_count m → (connector m (connection m k).from).enum_class ≡ (connector m (connection m k).to).enum_class
  same_class k l = eqb-true _ _ (and_parts (eqb (connector m (connection m k).from).value_type (connector m (connection m k).to).value_type) _ (stars.wires k l).alike).1

  wire-key : (k : ℕ) → k < connection_count m → OneKey m (slot (filled_slots m) (connection m k).to) (slot (filled_slots m) (connection m k).from)
  wire-key k l =
      let r = (connection m k).from in
      let t = (connection m k).to in
      let a = from-lt m stars k l in
      let b = to-lt m stars k l in
      members-key r t r a (driven-root m stars r t (wire-driven m stars k l)) (Memᴰ.tail (wire-driven m stars k l)) (Memᴰ.head refl) (omega arith) (omega arith)
      (slot-kind t b ∙ sym (same-type k l) ∙ sym (slot-kind r a))

  out-key : (i : ℕ) → i < boundary_output_count m → OneKey m (slot (filled_slots m) (connector_count m + i)) (slot (filled_slots m) (boundary_output m i).source)
  out-key i l =
      let r = (boundary_output m i).source in
      let t = connector_count m + i in
      let a = source-lt m stars i l in
      members-key r t r a (driven-root m stars r t (out-driven m stars i l)) (Memᴰ.tail (out-driven m stars i l)) (Memᴰ.head refl) (omega arith) (omega arith)
      (out-kind i l ∙ sym (slot-kind r a))

  -- where kinds other than Real have neither unit nor quantity
  module _ (plain : (i : ℕ) → (slot (filled_slots m) i).kind ≢ real_kind → (declared_at (slot (filled_slots m) i) quantity_bit ≡ None) × (declared_at (slot (filled_slots m) i) unit_bit ≡ None)) where
    pub wire-units : (k : ℕ) → k < connection_count m → alike_units m (slot (filled_slots m) (connection m k).to) (slot (filled_slots m) (connection m k).from) ≡ true
    wire-units k l = same_units m _ _ (wire-key k l) (plain (connection m k).to) (plain (connection m k).from)

    pub out-units : (i : ℕ) → i < boundary_output_count m → alike_units m (slot (filled_slots m) (connector_count m + i)) (slot (filled_slots m) (boundary_output m i).source) ≡ true
    out-units i l = same_units m _ _ (out-key i l) (plain (connector_count m + i)) (plain (boundary_output m i).source)

  -- ---- what arrives

  out-chosen : (i : ℕ) → i < connector_count m → is_in (connector m i) ≡ false → chosen m i ≡ true
  unfolding chosen
  out-chosen i l h = rw (lt-ltb _ _ l, h)

  wire-arrives : (x : ℕ → Datum) (k : ℕ) → k < connection_count m → arrivals m x (connection m k).to ≡ x (connection m k).from ∷ []
  unfolding arrivals connected
  wire-arrives x k l =
      let i = (connection m k).to in
      let c : below (connection_count m) (λ k. eqb (connection m k).to i) ≡ true = below-some (connection_count m) (λ k. eqb (connection m k).to i) k l (eq-eqb i i refl) in
      rw c
      (each-only (connection_count m) (λ k. only (eqb (connection m k).to i && chosen m (connection m k).from) (x (connection m k).from)) k l
      (λ h g n. rw (ne_eqb (connection m h).to i (λ e. n (one-wire m stars h k g l e))))
      ∙ rw (eq-eqb i i refl, out-chosen (connection m k).from (from-lt m stars k l) (stars.wires k l).from_out))

  -- what a choice says of connector i
  pub record Chosen (x : ℕ → Datum) (i : ℕ) : Type 0 where
    pub typed : of_type (connector m i) (x i) ≡ true
    pub ranged : inside (range_of m.defaults (slot (filled_slots m) i)) (x i) ≡ true

  type-along : (c d : Connector) (v : Datum) → c.value_type ≡ d.value_type → c.enum_class ≡ d.enum_class → of_type c v ≡ true → of_type d v ≡ true
  unfolding of_type
  type-along c d v e f h = rw (e, f) at h

  pub input-gets : (x : ℕ → Datum) → ((i : ℕ) → chosen m i ≡ true → Chosen x i) → (i : ℕ) → i < connector_count m → is_in (connector m i) ≡ true
      → (v : Datum) × (arrivals m x i ≡ v ∷ []) × (of_type (connector m i) v ≡ true) × (inside (range_of m.defaults (slot (filled_slots m) i)) v ≡ true)
  input-gets x choice i l n = arm (connected m i) refl
    where
      Gets : ℕ → Type 0
      Gets i = (v : Datum) × (arrivals m x i ≡ v ∷ []) × (of_type (connector m i) v ≡ true) × (inside (range_of m.defaults (slot (filled_slots m) i)) v ≡ true)

      fed : (k : ℕ) → k < connection_count m → Gets (connection m k).to
      fed k g =
          let r = (connection m k).from in
          let c = choice r (out-chosen r (from-lt m stars k g) (stars.wires k g).from_out) in (
            x r,
            wire-arrives x k g,
            type-along (connector m r) (connector m (connection m k).to) (x r) (same-type k g) (same_class k g) c.typed,
            same-inside m _ _ (wire-key k g) (x r) ∙ c.ranged,
          )

      arm : (b : Bool) → connected m i ≡ b → Gets i
      arm true e = let p = connected-by m i e in rw p.2 at (fed p.0 p.1)
      arm false e =
          let c = choice i (free-chosen m i l e) in
          (x i, free-arrives m x i e, c.typed, c.ranged)

  pub output-gets : (x : ℕ → Datum) → ((i : ℕ) → chosen m i ≡ true → Chosen x i) → (i : ℕ) → i < boundary_output_count m
      → (v : Datum) × (delivered m x (boundary_output m i) ≡ v ∷ []) × (of_kind (boundary_output m i).attrs.kind v ≡ true) × (inside (range_of m.defaults (slot (filled_slots m) (connector_count m + i))) v ≡ true)
  unfolding delivered of_type
  output-gets x choice i l =
      let r = (boundary_output m i).source in
      let h = out-chosen r (source-lt m stars i l) (source-out m stars i l) in
      let c = choice r h in
      (x r, rw h, ap (λ k. of_kind k (x r)) (source-kind m stars i l) ∙ (and_parts _ _ c.typed).0, same-inside m _ _ (out-key i l) (x r) ∙ c.ranged)

  -- ---- a choice

  -- nothing leads to a connector that a value is chosen for
  no-wire : (i : ℕ) → chosen m i ≡ true → (k : ℕ) → k < connection_count m → (connection m k).to ≢ i
  unfolding chosen connected
  no-wire i c k l e = arm (is_in (connector m i)) refl (and_parts (ltb i (connector_count m)) _ c).1
    where
      to_in : is_in (connector m i) ≡ true
      to_in = ap (λ i. is_in (connector m i)) (sym e) ∙ (stars.wires k l).to_in

      arm : (b : Bool) → is_in (connector m i) ≡ b → (not b || not (below (connection_count m) (λ k. eqb (connection m k).to i))) ≡ true → ⊥
      arm false h g = true≢false (sym to_in ∙ h)
      arm true h g = true≢false (sym (below-some (connection_count m) (λ k. eqb (connection m k).to i) k l (eq-eqb _ i e)) ∙ not-true _ g)

  uncrossed-at : (i : ℕ) → chosen m i ≡ true → crossed (range_of m.defaults (slot (filled_slots m) i)) ≡ false
  uncrossed-at i c = arm (is_root m i) refl
    where
      l : i < connector_count m
      l = chosen-lt m i c

      arm : (b : Bool) → is_root m i ≡ b → crossed (range_of m.defaults (slot (filled_slots m) i)) ≡ false
      arm true e = quiet.root_range i l e
      arm false e =
          let s = unclustered m i (λ r f g. true≢false (sym f ∙ ap (is_root m) (sym (alone m stars r i l (no-wire i c) g)) ∙ e)) in
          ap (λ a. crossed (range_of m.defaults a)) (s ∙ slot-connector m i l) ∙ quiet.range i l

  pub a-choice : ((i : ℕ) → i < connector_count m → (connector m i).value_type ≤ enum_kind) → mag m.defaults.min < 2 ^ 63
      → (i : ℕ) → chosen m i ≡ true → Chosen (λ i. pick (connector m i).value_type (connector m i).enum_class (range_of m.defaults (slot (filled_slots m) i))) i
  a-choice types low i c =
      let p = pick-fits m (connector m i) (slot (filled_slots m) i) (filled-kind i (chosen-lt m i c)) (types i (chosen-lt m i c)) low (uncrossed-at i c) in
      record { typed = p.0; ranged = p.1 }
