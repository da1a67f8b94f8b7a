-- The image with its own attributes in its slots is the image: what the filled buffer holds where the report has an error.
use Prim.Native.Nat.{ℕ, ◌+◌, ◌-◌, ◌<◌}
use native.Mathlib.Decide.{dec_lt}
use native.Mathlib.Omega.{arith}
use mathlib.Core.Path.{◌≡◌, refl, sym, ap, ◌∙◌}
use mathlib.Core.Bool.{true}
use mathlib.Core.List.{List}
use Rattle.oce_model.specs.Format.{attrs_length, boundary_output_attrs, boundary_output_tag, connector_attrs, connector_tag}
use Rattle.oce_model.specs.Attributes.{attrs_at, attrs_bytes}
use Rattle.oce_model.specs.Model.{Model, boundary_output_at, boundary_output_count, connector_at, connector_count, model_of}
use Rattle.oce_diag.specs.Diagnostics.{has_error}
use Rattle.unify.specs.Slots.{slot, slots_of}
use Rattle.unify.proofs.Slots.{slot-connector, slot-out}
use Rattle.outcome.specs.Answer.{report_of}
use Rattle.outcome.specs.Filled.{filled_of, with_slots}
use Rattle.outcome.specs.Report.{final_slots}
use Rattle.moved.proofs.Bytes.{Bytes}
use Rattle.base.proofs.Patches.{patched-own}
use Rattle.oce_model.proofs.Accepted.{Accepted, connector-is, connectors-length, output-is, outputs-length}
use Rattle.oce_model.proofs.Attributes.{attrs-own}
use Rattle.oce_model.proofs.Fields.{nth}
use Rattle.moved.proofs.Refilled.{with_slots-is}
use Rattle.moved.proofs.Regions.{connector_slots, offset, offset-connector, offset-out, output_slots, slots-fit}

module _ (s : List ℕ) (bytes : Bytes s) where
  con-at : (at : ℕ) → (connector_at s at).attrs ≡ attrs_at s (at + connector_attrs)
  unfolding connector_at
  con-at at = refl

  out_at : (at : ℕ) → (boundary_output_at s at).attrs ≡ attrs_at s (at + boundary_output_attrs)
  unfolding boundary_output_at
  out_at at = refl

  -- the slots of the image stand at their offsets
  pub slot_at : (j : ℕ) → j < connector_slots s + output_slots s → slot (slots_of (model_of s)) j ≡ attrs_at s (offset s j)
  slot_at j l = arm (dec_lt j (connector_slots s))
    where
      m : Model
      m = model_of s

      arm : Dec (j < connector_slots s) → slot (slots_of m) j ≡ attrs_at s (offset s j)
      arm (yes k) =
          let i : j < connector_count m = rw (connectors-length s) k in
          slot-connector m j i ∙ ap (λ c. c.attrs) (connector-is s j i) ∙ con-at (nth connector_tag s j).at ∙ ap (attrs_at s) (sym (offset-connector s j k))
      arm (no k) =
          let i = j - connector_slots s in
          let q : i < output_slots s = omega arith in
          let q' : i < boundary_output_count m = rw (outputs-length s) q in
          let e : j ≡ connector_slots s + i = omega arith in
          let f : j ≡ connector_count m + i = rw (connectors-length s) e in
          ap (slot (slots_of m)) f ∙ slot-out m i ∙ ap (λ b. b.attrs) (output-is s i q') ∙ out_at (nth boundary_output_tag s i).at ∙ ap (attrs_at s) (sym (ap (offset s) e ∙ offset-out s i q))

  pub own-slots : Accepted s → with_slots s (slots_of (model_of s)) ≡ s
  own-slots acc =
      with_slots-is s (slots_of (model_of s))
      ∙ patched-own s (offset s) (λ j. attrs_bytes (slot (slots_of (model_of s)) j)) attrs_length (connector_slots s + output_slots s) (slots-fit s acc) (λ j l. ap attrs_bytes (slot_at j l) ∙ attrs-own s bytes (offset s j) (slots-fit s acc j l))

  pub undone : Accepted s → has_error (report_of s) ≡ true → filled_of s ≡ s
  unfolding filled_of final_slots report_of
  undone acc h = rw h (own-slots acc)
