-- Values that move along connections, parts 3 to 7, over the definitions: of an accepted image without errors, and the model read again from the filled image. FORMAT 18.
use Prim.Native.Nat.{ℕ, ◌+◌, ◌^◌, ◌<◌}
use mathlib.Core.Path.{◌≡◌, refl, ap, ◌∙◌}
use mathlib.Core.Bool.{true, false}
use mathlib.Core.List.{List, []}
use Rattle.std.specs.Prelude.{Option, Some, None}
use mathlib.Core.Logic.{◌≢◌}
use lib.ListN.{length, get_or}
use lib.Signed.{mag}
use Rattle.oce_model.specs.Format.{quantity_bit, real_kind, unit_bit}
use Rattle.oce_model.specs.Attributes.{declared_at}
use Rattle.oce_model.specs.declared.Attrs.{Attrs}
use Rattle.oce_model.specs.Model.{Model, boundary_input, boundary_output, boundary_output_count, connection, connector, connector_count, model_of, text}
use Rattle.oce_model.specs.Refusals.{refusal}
use Rattle.oce_diag.specs.Diagnostics.{has_error}
use Rattle.crossed_bounds.specs.Ranges.{range_of}
use Rattle.crossed_bounds.specs.Values.{Datum, inside, of_type}
use Rattle.unify.specs.Slots.{Slots, slot, slots_of}
use Rattle.unify.specs.Unify.{filled_slots}
use Rattle.unify.proofs.Slots.{slot-connector, slot-out}
use Rattle.outcome.specs.Answer.{report_of}
use Rattle.outcome.specs.Filled.{filled_of, with_slots}
use Rattle.outcome.specs.Report.{final_slots}
use Rattle.moved.specs.Moved.{Choice, Kept, OfTypes, Same, Wired, alike, alike_units, chosen}
use Rattle.moved.proofs.Bytes.{Bytes}
use Rattle.oce_model.proofs.Accepted.{Accepted, accepted}
use Rattle.oce_model.proofs.Records.{connector-type}
use Rattle.moved.proofs.Clusters.{from-lt, source-lt, to-lt}
use Rattle.moved.proofs.FilledImage.{slots-caps, slots-numbers}
use Rattle.moved.proofs.Flow.{Chosen, a-choice, chosen-lt, input-gets, out-units, output-gets, wire-units}
use Rattle.moved.proofs.Kept.{Kept-refl, filled_slots-later}
use Rattle.moved.proofs.OneDetail.{Roomy}
use Rattle.moved.proofs.Refilled.{Rewritten, connector-attrs, out-attrs, rewritten, same-model}
use Rattle.moved.proofs.Regions.{connector_slots, output_slots}
use Rattle.moved.proofs.SomeValue.{pick, signed-mag}
use Rattle.moved.proofs.Stars.{Quiet, Stars, quiet, stars}
use Rattle.moved.proofs.WellFormed.{filled-well, text_count, well-plain}
use Rattle.moved.proofs.Widths.{AllCaps, image-roomy}

-- ---- over a model f that is m with the attributes of rule 6's slots

-- f is m, with the attributes that rule 6 leaves
pub record Filled (m f : Model) : Type 0 where
  pub same : Same m f
  pub connectors : (i : ℕ) → i < connector_count m → (connector f i).attrs ≡ slot (filled_slots m) i
  pub outputs : (i : ℕ) → i < boundary_output_count m → (boundary_output f i).attrs ≡ slot (filled_slots m) (connector_count m + i)

-- ranges and texts are read alike in both
range_same : (m f : Model) → Same m f → (a : Attrs) → range_of f.defaults a ≡ range_of m.defaults a
range_same m f s a = ap (λ d. range_of d a) s.defaults

text_same : (m f : Model) → Same m f → (u : ℕ) → text f u ≡ text m u
unfolding text
text_same m f s u = ap (λ ts. get_or ts u []) s.texts

alike_same : (m f : Model) → Same m f → (x y : Option ℕ) → alike f x y ≡ alike m x y
alike_same m f s None None = refl
alike_same m f s None (Some v) = refl
alike_same m f s (Some u) None = refl
alike_same m f s (Some u) (Some v) = rw (text_same m f s u, text_same m f s v)

units-same : (m f : Model) → Same m f → (a b : Attrs) → alike_units f a b ≡ alike_units m a b
unfolding alike_units
units-same m f s a b = rw (alike_same m f s (declared_at a unit_bit) (declared_at b unit_bit), alike_same m f s (declared_at a quantity_bit) (declared_at b quantity_bit))

module _ (m f : Model) (is : Filled m f) where
  kept-connectors : (i : ℕ) → i < connector_count m → Kept (connector m i).attrs (connector f i).attrs
  kept-connectors i l = rw (is.connectors i l, ← (slot-connector m i l)) ((filled_slots-later m).at i)

  kept-outs : (i : ℕ) → i < boundary_output_count m → Kept (boundary_output m i).attrs (boundary_output f i).attrs
  kept-outs i l = rw (is.outputs i l, ← (slot-out m i)) ((filled_slots-later m).at (connector_count m + i))

  kept-ins : (i : ℕ) → Kept (boundary_input m i).attrs (boundary_input f i).attrs
  unfolding boundary_input
  kept-ins i = rw is.same.boundary_inputs (Kept-refl _)

  -- the filled range of a connector, and of a boundary output
  range_at : (i : ℕ) → i < connector_count m → range_of f.defaults (connector f i).attrs ≡ range_of m.defaults (slot (filled_slots m) i)
  range_at i l = range_same m f is.same (connector f i).attrs ∙ ap (range_of m.defaults) (is.connectors i l)

  range-out : (i : ℕ) → i < boundary_output_count m → range_of f.defaults (boundary_output f i).attrs ≡ range_of m.defaults (slot (filled_slots m) (connector_count m + i))
  range-out i l = range_same m f is.same (boundary_output f i).attrs ∙ ap (range_of m.defaults) (is.outputs i l)

-- ---- the model of an accepted image

-- the Integer default min is a number of 64 bits
low_end : (s : List ℕ) → mag (model_of s).defaults.min < 2 ^ 63
unfolding model_of
low_end s = signed-mag _

-- without errors the filled image is the image with rule 6's slots
filled_is : (s : List ℕ) → has_error (report_of s) ≡ false → filled_of s ≡ with_slots s (filled_slots (model_of s))
unfolding filled_of final_slots report_of
filled_is s h = rw h

-- so its model is the image's with rule 6's slots
pub again : (s : List ℕ) → Bytes s → refusal s ≡ None → has_error (report_of s) ≡ false → Filled (model_of s) (model_of (filled_of s))
unfolding filled_slots
again s bytes ok clean = rw (filled_is s clean) (record { same = same-model s t σ acc w; connectors = connector-attrs s t σ acc w six caps; outputs = out-attrs s t σ acc w six caps })
  where
    acc : Accepted s
    acc = accepted s ok

    σ : Slots
    σ = filled_slots (model_of s)

    t : List ℕ
    t = with_slots s σ

    w : Rewritten s t σ
    w = rewritten s acc σ

    caps : AllCaps σ
    caps = slots-caps s bytes (connector_count (model_of s))

    six : (j : ℕ) → j < connector_slots s + output_slots s → length (slot σ j).nums ≡ 6
    six = slots-numbers s (connector_count (model_of s))

-- of every accepted image whose report holds no error and in which every connector's attributes are of its type's kind
pub wired : (s : List ℕ) → Bytes s → refusal s ≡ None → has_error (report_of s) ≡ false → OfTypes (model_of s) → Wired (model_of s) (model_of (filled_of s))
unfolding report_of filled_slots
wired s bytes ok clean kinds = record {
  same = is.same;
  kept_connectors = kept-connectors m f is;
  kept_inputs = λ i l. kept-ins m f is i;
  kept_outputs = kept-outs m f is;
  inputs = λ x choice i l n.
      let p = input-gets m st qu kinds room x (chose x choice) i l n in
      record { value = p.0; one = p.1; typed = p.2; ranged = rw (range_at m f is i l) p.3 };
  outputs = λ x choice i l.
      let p = output-gets m st qu kinds room x (chose x choice) i l in
      record { value = p.0; one = p.1; typed = p.2; ranged = rw (range-out m f is i l) p.3 };
  units_in = λ k l.
      rw (is.connectors (connection m k).to (to-lt m st k l), is.connectors (connection m k).from (from-lt m st k l), units-same m f is.same (slot (filled_slots m) (connection m k).to) (slot (filled_slots m) (connection m k).from))
      (wire-units m st qu kinds room plain k l);
  units_out = λ i l.
      rw (is.outputs i l, is.connectors (boundary_output m i).source (source-lt m st i l), units-same m f is.same (slot (filled_slots m) (connector_count m + i)) (slot (filled_slots m) (boundary_output m i).source))
      (out-units m st qu kinds room plain i l);
  exists = (x₀, λ i h. given x₀ i h (a-choice m st qu kinds room (connector-type s acc) (low_end s) i h));
}
  where
    m : Model
    m = model_of s

    f : Model
    f = model_of (filled_of s)

    is : Filled m f
    is = again s bytes ok clean

    acc : Accepted s
    acc = accepted s ok

    st : Stars m
    st = stars m clean

    qu : Quiet m
    qu = quiet m clean

    room : Roomy (slots_of m)
    room = image-roomy s

    plain : (i : ℕ) → (slot (filled_slots m) i).kind ≢ real_kind → (declared_at (slot (filled_slots m) i) quantity_bit ≡ None) × (declared_at (slot (filled_slots m) i) unit_bit ≡ None)
    plain i = well-plain (text_count s) (slot (filled_slots m) i) ((filled-well s acc (connector_count m)).at i)

    chose : (x : ℕ → Datum) → Choice m f x → (i : ℕ) → chosen m i ≡ true → Chosen m st qu kinds room x i
    chose x choice i h = let p = choice i h in record { typed = p.0; ranged = rw (range_at m f is i (chosen-lt m i h)) at p.1 }

    given : (x : ℕ → Datum) (i : ℕ) → chosen m i ≡ true → Chosen m st qu kinds room x i → (of_type (connector m i) (x i) ≡ true) × (inside (range_of f.defaults (connector f i).attrs) (x i) ≡ true)
    given x i h p = (p.typed, rw (range_at m f is i (chosen-lt m i h)) p.ranged)

    x₀ : ℕ → Datum
    x₀ = λ i. pick (connector m i).value_type (connector m i).enum_class (range_of m.defaults (slot (filled_slots m) i))
