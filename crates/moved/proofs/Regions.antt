-- Where the attributes of an image's slots stand: each at the end of its field, so no two of them overlap, and what stands before them in a field lies outside all.
use Prim.Native.Nat.{ℕ, ◌+◌, ◌-◌, ◌≤◌, ◌<◌}
use native.Mathlib.Decide.{dec_lt}
use native.Mathlib.Omega.{arith}
use mathlib.Core.Path.{◌≡◌, sym, ap, ◌∙◌}
use mathlib.Core.Logic.{inl, inr}
use mathlib.Core.List.{List, map, Memᴰ}
use lib.ListN.{length, get_or, length-map, length-append, get_or-append}
use lib.Seq.{get_or-append-add}
use Rattle.oce_model.specs.Format.{attrs_length, boundary_output_attrs, boundary_output_tag, connector_attrs, connector_tag}
use Rattle.oce_model.specs.Image.{field_at, fields, of_tag}
use Rattle.oce_model.specs.declared.Field.{Field}
use Rattle.outcome.specs.Filled.{slot_offsets}
use Rattle.base.proofs.Members.{get_or-map}
use Rattle.base.proofs.Patches.{Apart, Outside}
use Rattle.oce_model.proofs.Accepted.{Accepted, connector-len, output-len}
use Rattle.oce_model.proofs.Fields.{nth, nth-mem, nth-tag}
use Rattle.oce_model.proofs.Places.{Placed, end_at, field-end, fields-placed, left, nth-ordered, one, right}

-- where the attributes of slot j stand
abbrev pub offset : List ℕ → ℕ → ℕ
offset s j = get_or (slot_offsets s) j 0

abbrev pub connector_slots : List ℕ → ℕ
connector_slots s = length (of_tag connector_tag (fields s))

abbrev pub output_slots : List ℕ → ℕ
output_slots s = length (of_tag boundary_output_tag (fields s))

pub offsets-length : (s : List ℕ) → length (slot_offsets s) ≡ connector_slots s + output_slots s
unfolding slot_offsets
offsets-length s = simp (length-append, length-map)

pub offset-connector : (s : List ℕ) (j : ℕ) → j < connector_slots s → offset s j ≡ (nth connector_tag s j).at + connector_attrs
unfolding slot_offsets
offset-connector s j l =
    let k : j < length (map (λ (f : Field). f.at + connector_attrs) (of_tag connector_tag (fields s))) = rw length-map l in
    get_or-append (map (λ (f : Field). f.at + connector_attrs) (of_tag connector_tag (fields s))) (map (λ (f : Field). f.at + boundary_output_attrs) (of_tag boundary_output_tag (fields s))) 0 j k
    ∙ get_or-map (λ (f : Field). f.at + connector_attrs) (of_tag connector_tag (fields s)) j (field_at s 0 0 0) 0 l

pub offset-out : (s : List ℕ) (i : ℕ) → i < output_slots s → offset s (connector_slots s + i) ≡ (nth boundary_output_tag s i).at + boundary_output_attrs
unfolding slot_offsets
offset-out s i l =
    (rw length-map at (get_or-append-add (map (λ (f : Field). f.at + connector_attrs) (of_tag connector_tag (fields s))) (map (λ (f : Field). f.at + boundary_output_attrs) (of_tag boundary_output_tag (fields s))) i 0))
    ∙ get_or-map (λ (f : Field). f.at + boundary_output_attrs) (of_tag boundary_output_tag (fields s)) i (field_at s 0 0 0) 0 l

-- slot j belongs to a field, at the field's end
pub data SlotField (s : List ℕ) (j : ℕ) : Type 0 where
  of_connector : (f : Field) → Memᴰ f (fields s) → f.tag ≡ connector_tag → offset s j ≡ f.at + connector_attrs → offset s j + attrs_length ≡ end_at f → SlotField s j
  of_output : (f : Field) → Memᴰ f (fields s) → f.tag ≡ boundary_output_tag → offset s j ≡ f.at + boundary_output_attrs → offset s j + attrs_length ≡ end_at f → SlotField s j

module _ (s : List ℕ) (acc : Accepted s) where
  pub slot-field : (j : ℕ) → j < connector_slots s + output_slots s → SlotField s j
  slot-field j l = arm (dec_lt j (connector_slots s))
    where
      arm : Dec (j < connector_slots s) → SlotField s j
      arm (yes k) =
          let f = nth connector_tag s j in
          let o = offset-connector s j k in
          let z = connector-len s acc f (nth-mem connector_tag s j k) (nth-tag connector_tag s j k) in
          of_connector f (nth-mem connector_tag s j k) (nth-tag connector_tag s j k) o (omega arith)
      arm (no k) =
          let i = j - connector_slots s in
          let q : i < output_slots s = omega arith in
          let f = nth boundary_output_tag s i in
          let e : j ≡ connector_slots s + i = omega arith in
          let o : offset s j ≡ (nth boundary_output_tag s i).at + boundary_output_attrs = ap (offset s) e ∙ offset-out s i q in
          let z = output-len s acc f (nth-mem boundary_output_tag s i q) (nth-tag boundary_output_tag s i q) in
          of_output f (nth-mem boundary_output_tag s i q) (nth-tag boundary_output_tag s i q) o (omega arith)

  pub slots-fit : (j : ℕ) → j < connector_slots s + output_slots s → offset s j + attrs_length ≤ length s
  slots-fit j l = arm (slot-field j l)
    where
      arm : SlotField s j → offset s j + attrs_length ≤ length s
      arm (of_connector f m t o e) = rw e (field-end s f m)
      arm (of_output f m t o e) = rw e (field-end s f m)

  pub slots_apart : (i j : ℕ) → i < j → j < connector_slots s + output_slots s → Apart attrs_length (offset s i) (offset s j)
  slots_apart i j h l = arm (dec_lt i (connector_slots s)) (dec_lt j (connector_slots s))
    where
      con : (i : ℕ) (k : i < connector_slots s) → (nth connector_tag s i).len ≡ 48
      con i k = connector-len s acc (nth connector_tag s i) (nth-mem connector_tag s i k) (nth-tag connector_tag s i k)

      out : (i : ℕ) (k : i < output_slots s) → (nth boundary_output_tag s i).len ≡ 38
      out i k = output-len s acc (nth boundary_output_tag s i) (nth-mem boundary_output_tag s i k) (nth-tag boundary_output_tag s i k)

      at-output : (i : ℕ) → connector_slots s ≤ i → i < connector_slots s + output_slots s → offset s i ≡ (nth boundary_output_tag s (i - connector_slots s)).at + boundary_output_attrs
      at-output i a b = let e : i ≡ connector_slots s + (i - connector_slots s) = omega arith in ap (offset s) e ∙ offset-out s (i - connector_slots s) (omega arith)

      arm : Dec (i < connector_slots s) → Dec (j < connector_slots s) → Apart attrs_length (offset s i) (offset s j)
      arm (yes a) (yes b) = inl (omega (arith, offset-connector s i a, offset-connector s j b, con i a, nth-ordered connector_tag s i j h b))
      arm (no a) (yes b) = absurd (omega arith)
      arm (no a) (no b) =
          let p : i - connector_slots s < output_slots s = omega arith in
          let q : j - connector_slots s < output_slots s = omega arith in
          let r : i - connector_slots s < j - connector_slots s = omega arith in
          inl (omega (arith, at-output i (omega arith) (omega arith), at-output j (omega arith) l, out (i - connector_slots s) p, nth-ordered boundary_output_tag s (i - connector_slots s) (j - connector_slots s) r q))
      arm (yes a) (no b) = side (fields-placed s (nth connector_tag s i) (nth boundary_output_tag s k) (nth-mem connector_tag s i a) (nth-mem boundary_output_tag s k q))
        where
          k : ℕ
          k = j - connector_slots s

          q : j - connector_slots s < output_slots s
          q = omega arith

          side : Placed (nth connector_tag s i) (nth boundary_output_tag s k) → Apart attrs_length (offset s i) (offset s j)
          side (one e) = absurd (omega (arith, sym (nth-tag connector_tag s i a) ∙ ap (λ (f : Field). f.tag) e ∙ nth-tag boundary_output_tag s k q))
          side (left e) = inl (omega (arith, offset-connector s i a, at-output j (omega arith) l, con i a))
          side (right e) = inr (omega (arith, offset-connector s i a, at-output j (omega arith) l, out k q))

  -- an offset inside a field lies outside every slot's region, if it stands before the attributes of that field
  pub outside-slots : (f : Field) (x : ℕ) → Memᴰ f (fields s) → f.at ≤ x → x < end_at f → (f.tag ≡ connector_tag → x < f.at + connector_attrs) → (f.tag ≡ boundary_output_tag → x < f.at + boundary_output_attrs)
      → (j : ℕ) → j < connector_slots s + output_slots s → Outside attrs_length (offset s j) x
  outside-slots f x m a b four eight j l = arm (slot-field j l)
    where
      arm : SlotField s j → Outside attrs_length (offset s j) x
      arm (of_connector g k t o e) = side (fields-placed s f g m k)
        where
          side : Placed f g → Outside attrs_length (offset s j) x
          side (one q) = let z = four (ap (λ (f : Field). f.tag) q ∙ t) in let w = ap (λ (f : Field). f.at) q in inl (omega arith)
          side (left q) = inl (omega arith)
          side (right q) = inr (omega arith)
      arm (of_output g k t o e) = side (fields-placed s f g m k)
        where
          side : Placed f g → Outside attrs_length (offset s j) x
          side (one q) = let z = eight (ap (λ (f : Field). f.tag) q ∙ t) in let w = ap (λ (f : Field). f.at) q in inl (omega arith)
          side (left q) = inl (omega arith)
          side (right q) = inr (omega arith)
