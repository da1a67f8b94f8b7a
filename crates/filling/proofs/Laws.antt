-- Laws of the filled image: one slot's bytes, where they stand, and the loop over slots.
use Prim.Native.Nat.{ℕ, zero, suc, ◌+◌, ◌*◌, ◌-◌, ◌%◌, ◌≤◌, ◌<◌}
use native.Mathlib.Nat.{zero-add}
use native.Mathlib.Numerals.{add-one}
use native.Mathlib.Omega.{arith}
use mathlib.Core.Path.{◌≡◌, refl, sym, ap, ◌∙◌}
use mathlib.Core.List.{List, [], ◌∷◌, ◌++◌, append_assoc, append-nil}
use lib.ListN.{length, get_or, take, drop, length-append}
use lib.Seq.{take-append-le, drop-append-le}
use Rattle.std.proofs.lemmas.List.{drop_all}
use Rattle.base.specs.Lists.{steps}
use Rattle.base.specs.Buffers.{patch, starts_with}
use Rattle.base.proofs.Buffers.{patch-length, patch-patch}
use Rattle.base.proofs.Members.{get_or-default}
use Rattle.base.proofs.Patches.{patched, patched-next, patched-length}
use Rattle.numbers.specs.Bytes.{short_range, le_bytes}
use Rattle.numbers.proofs.Bytes.{le_bytes-low, le_bytes-length}
use Rattle.oce_model.specs.Format.{attrs_length, attrs_quantity_at, attrs_unit_at, attrs_display_unit_at, attrs_min_at, attrs_max_at, attrs_nominal_at, longest_image, quantity_bit, unit_bit, display_unit_bit, min_bit, max_bit, nominal_bit, connector_tag, connector_size, connector_attrs, boundary_output_tag, boundary_output_size, boundary_output_attrs, fixed_length}
use Rattle.oce_model.specs.Image.{start_of}
use Rattle.oce_model.specs.Attributes.{num, no_attrs, attrs_bytes}
use Rattle.oce_model.specs.declared.Attrs.{Attrs}
use Rattle.oce_model.specs.Model.{model_of}
use Rattle.oce_model.specs.Refusals.{refusal}
use Rattle.std.specs.Prelude.{None}
use Rattle.oce_model.proofs.Accepted.{Accepted, accepted, connectors-length, outputs-length}
use Rattle.oce_model.proofs.Attributes.{bytes-length}
use Rattle.oce_model.proofs.Records.{nth-at}
use Rattle.image_accept.specs.Layout.{Laid, section_of, layout_of}
use Rattle.image_accept.specs.declared.Layout.{Layout}
use Rattle.image_records.proofs.Laws.{connectors-counted}
use Rattle.unify.specs.Slots.{Slots, slot}
use Rattle.unify_slots.specs.Slots.{slot_count}
use Rattle.outcome.specs.Filled.{with_slots}
use Rattle.moved.proofs.Regions.{offset, connector_slots, output_slots, offset-connector, offset-out, slots-fit, slots_apart}
use Rattle.moved.proofs.Refilled.{with_slots-is}
use Rattle.filling.specs.Parts.{lead_bytes, text_bytes, end_bytes}

-- ---- bytes in three parts

-- parts that are written one behind the other are one patch
pub patch-three : (s : List ℕ) (at v w : ℕ) (xs ys zs : List ℕ) {s₁ s₂ s₃ : List ℕ} → s₃ ≡ patch s₂ (at + w) zs → s₂ ≡ patch s₁ (at + v) ys → s₁ ≡ patch s at xs
    → length xs ≡ v → v + length ys ≡ w → at + w ≤ length s → s₃ ≡ patch s at (xs ++ ys ++ zs)
patch-three s at v w xs ys zs c b a lx ly fits =
    let n : at + w ≡ at + length (xs ++ ys) = rw length-append (omega arith) in
    let m : at + v ≡ at + length xs = omega arith in
    c ∙ rw (b, a, m, patch-patch s at xs ys (omega arith), n) (patch-patch s at (xs ++ ys) zs (omega arith))

-- three numbers of w bytes
patch-numbers : (w : ℕ) (s : List ℕ) (at a b c : ℕ) {s₁ s₂ s₃ : List ℕ} → s₃ ≡ patch s₂ (at + (w + w)) (le_bytes w c) → s₂ ≡ patch s₁ (at + w) (le_bytes w b) → s₁ ≡ patch s at (le_bytes w a)
    → at + (w + w + w) ≤ length s → s₃ ≡ patch s at (le_bytes w a ++ le_bytes w b ++ le_bytes w c)
patch-numbers w s at a b c z y x fits =
    patch-three s at w (w + w) (le_bytes w a) (le_bytes w b) (le_bytes w c) z y x (le_bytes-length w a) (rw (le_bytes-length w b)) (omega arith)

-- the three parts of attributes
module _ (s : List ℕ) (at : ℕ) (a : Attrs) where
  pub patch-lead : {s₁ : List ℕ} {k m : ℕ} → s₁ ≡ patch s at (k ∷ m ∷ []) → k ≡ a.kind → m ≡ a.marks → s₁ ≡ patch s at (lead_bytes a)
  unfolding lead_bytes
  patch-lead h ek em = rw (ek, em) at h

  pub patch-texts : {s₁ s₂ s₃ : List ℕ} {x y z : ℕ} → s₃ ≡ patch s₂ (at + attrs_display_unit_at) (le_bytes 2 (z % short_range)) → s₂ ≡ patch s₁ (at + attrs_unit_at) (le_bytes 2 (y % short_range))
      → s₁ ≡ patch s (at + attrs_quantity_at) (le_bytes 2 (x % short_range)) → x ≡ num a quantity_bit → y ≡ num a unit_bit → z ≡ num a display_unit_bit → at + attrs_length ≤ length s
      → s₃ ≡ patch s (at + attrs_quantity_at) (text_bytes a)
  unfolding text_bytes
  patch-texts {x = x} {y} {z} h' g' f ex ey ez fits =
      let p : at + attrs_unit_at ≡ at + attrs_quantity_at + 2 = omega arith in
      let q : at + attrs_display_unit_at ≡ at + attrs_quantity_at + (2 + 2) = omega arith in
      let g = rw p at g' in
      let h = rw q at h' in
      patch-numbers 2 s (at + attrs_quantity_at) (num a quantity_bit) (num a unit_bit) (num a display_unit_bit)
      (h ∙ rw (le_bytes-low 2 z, ez)) (g ∙ rw (le_bytes-low 2 y, ey)) (f ∙ rw (le_bytes-low 2 x, ex)) (omega arith)

  pub patch-ends : {s₁ s₂ s₃ : List ℕ} {x y z : ℕ} → s₃ ≡ patch s₂ (at + attrs_nominal_at) (le_bytes 8 z) → s₂ ≡ patch s₁ (at + attrs_max_at) (le_bytes 8 y) → s₁ ≡ patch s (at + attrs_min_at) (le_bytes 8 x)
      → x ≡ num a min_bit → y ≡ num a max_bit → z ≡ num a nominal_bit → at + attrs_length ≤ length s → s₃ ≡ patch s (at + attrs_min_at) (end_bytes a)
  unfolding end_bytes
  patch-ends h g f ex ey ez fits =
      let p : at + attrs_max_at ≡ at + attrs_min_at + 8 = omega arith in
      let q : at + attrs_nominal_at ≡ at + attrs_min_at + (8 + 8) = omega arith in
      patch-numbers 8 s (at + attrs_min_at) (num a min_bit) (num a max_bit) (num a nominal_bit) (rw (q, ez) at h) (rw (p, ey) at g) (rw ex at f) (omega arith)

  pub patch-attrs : {s₁ s₂ s₃ : List ℕ} → s₃ ≡ patch s₂ (at + attrs_min_at) (end_bytes a) → s₂ ≡ patch s₁ (at + attrs_quantity_at) (text_bytes a) → s₁ ≡ patch s at (lead_bytes a) → at + attrs_length ≤ length s → s₃ ≡ patch s at (attrs_bytes a)
  unfolding attrs_bytes lead_bytes text_bytes end_bytes le_bytes
  patch-attrs h g f fits = patch-three s at attrs_quantity_at attrs_min_at (lead_bytes a) (text_bytes a) (end_bytes a) h g f refl refl (omega arith)

-- a patch of as many bytes as there are
patch-all : (s bs : List ℕ) → length s ≡ length bs → patch s 0 bs ≡ bs
unfolding patch
patch-all s bs e = rw (zero-add, drop_all (length bs) s (omega (arith, e))) (append-nil bs)

text-size : (a : Attrs) → length (text_bytes a) ≡ 6
unfolding text_bytes le_bytes
text-size a = refl

-- all of them, written into room for just them
pub encoded : (a : Attrs) (s : List ℕ) {s₁ s₂ s₃ s₄ s₅ s₆ s₇ : List ℕ} {k m x y z u v w : ℕ} → length s ≡ attrs_length → s₁ ≡ patch s 0 (k ∷ m ∷ [])
    → s₂ ≡ patch s₁ attrs_quantity_at (le_bytes 2 (x % short_range)) → s₃ ≡ patch s₂ attrs_unit_at (le_bytes 2 (y % short_range)) → s₄ ≡ patch s₃ attrs_display_unit_at (le_bytes 2 (z % short_range))
    → s₅ ≡ patch s₄ attrs_min_at (le_bytes 8 u) → s₆ ≡ patch s₅ attrs_max_at (le_bytes 8 v) → s₇ ≡ patch s₆ attrs_nominal_at (le_bytes 8 w)
    → k ≡ a.kind → m ≡ a.marks → x ≡ num a quantity_bit → y ≡ num a unit_bit → z ≡ num a display_unit_bit → u ≡ num a min_bit → v ≡ num a max_bit → w ≡ num a nominal_bit
    → s₇ ≡ attrs_bytes a
encoded a s {s₁} {s₄ = s₄} {k = k} {m = m} n h₁ h₂ h₃ h₄ h₅ h₆ h₇ ek em ex ey ez eu ev ew =
    let n₁ : length s₁ ≡ attrs_length = ap length h₁ ∙ patch-length s 0 (k ∷ m ∷ []) (omega (arith, n)) ∙ n in
    let t : s₄ ≡ patch s₁ attrs_quantity_at (text_bytes a) = patch-texts s₁ 0 a h₄ h₃ h₂ ex ey ez (omega (arith, n₁)) in
    let n₄ : length s₄ ≡ attrs_length = ap length t ∙ patch-length s₁ attrs_quantity_at (text_bytes a) (omega (arith, n₁, text-size a)) ∙ n₁ in
    patch-attrs s 0 a (patch-ends s₄ 0 a h₇ h₆ h₅ eu ev ew (omega (arith, n₄))) t (patch-lead s 0 a h₁ ek em) (omega (arith, n))
    ∙ patch-all s (attrs_bytes a) (n ∙ sym (bytes-length a))

-- ---- where a slot's attributes stand

module _ {s : List ℕ} {l : Layout} (h : Laid s l) where
  acc : Accepted s
  acc = accepted s h.accepted

  slots-all : slot_count (model_of s) ≡ connector_slots s + output_slots s
  slots-all = rw (connectors-length s, outputs-length s)

  module _ {j : ℕ} where
    near : {at : ℕ} → at ≡ offset s j → j < slot_count (model_of s) → at ≤ longest_image
    near e k = omega (arith, acc.short, slots-fit s acc j (rw slots-all at k))

    -- of a connector
    pub connector-offset : {at : ℕ} → at ≡ l.connectors.start + connector_size * j + connector_attrs → j < l.connectors.count → at ≡ offset s j
    unfolding layout_of section_of fixed_length
    connector-offset e k = e ∙ rw h.layout (go (rw h.layout at k))
      where
        go : j < connector_slots s → start_of connector_tag s + connector_size * j + connector_attrs ≡ offset s j
        go k = sym (offset-connector s j k ∙ ap (λ n. n + connector_attrs) (nth-at s acc connector_tag connector_size j (omega arith) (omega arith) refl k))

    pub connector-near : j < l.connectors.count → l.connectors.start + connector_size * j ≤ longest_image
    connector-near k = omega (arith, near (connector-offset refl k) (omega (arith, connectors-counted h)))

    -- of a boundary output
    pub output-offset : {at : ℕ} → at ≡ l.outputs.start + boundary_output_size * (j - l.connectors.count) + boundary_output_attrs → l.connectors.count ≤ j → j < slot_count (model_of s) → at ≡ offset s j
    unfolding layout_of section_of fixed_length
    output-offset e k b = e ∙ rw h.layout (go (rw h.layout at k) (rw slots-all at b))
      where
        go : connector_slots s ≤ j → j < connector_slots s + output_slots s → start_of boundary_output_tag s + boundary_output_size * (j - connector_slots s) + boundary_output_attrs ≡ offset s j
        go k b =
            let i = j - connector_slots s in
            let q : i < output_slots s = omega arith in
            let e : connector_slots s + i ≡ j = omega arith in
            sym (ap (offset s) (sym e) ∙ offset-out s i q ∙ ap (λ n. n + boundary_output_attrs) (nth-at s acc boundary_output_tag boundary_output_size i (omega arith) (omega arith) refl q))

    pub output-near : l.connectors.count ≤ j → j < slot_count (model_of s) → l.outputs.start + boundary_output_size * (j - l.connectors.count) ≤ longest_image
    output-near k b = omega (arith, near (output-offset refl k b) b)

-- ---- the loop

-- bytes put into a buffer that starts with others
pub patch-start : (t b : List ℕ) (at : ℕ) (bs : List ℕ) → at + length bs ≤ length t → patch (starts_with t b) at bs ≡ starts_with (patch t at bs) b
unfolding starts_with patch
patch-start t b at bs fits =
    rw (patch-length t at bs fits, take-append-le at t (drop (length t) b) (omega arith), drop-append-le (at + length bs) t (drop (length t) b) fits)
    (sym (append_assoc (take at t ++ bs) (drop (at + length bs) t) (drop (length t) b)))

-- the bytes of slot j
unfoldable pub bytes_of : Slots → ℕ → List ℕ
bytes_of σ j = attrs_bytes (slot σ j)

sizes : (σ : Slots) (j : ℕ) → length (bytes_of σ j) ≡ attrs_length
unfolding bytes_of
sizes σ j = bytes-length (slot σ j)

-- slots that are written into a buffer that starts with the image
module _ (s : List ℕ) (acc : Accepted s) (σ : Slots) (b : List ℕ) where
  slots-start : (n : ℕ) → n ≤ connector_slots s + output_slots s → patched (starts_with s b) (offset s) (bytes_of σ) n ≡ starts_with (patched s (offset s) (bytes_of σ) n) b
  unfolding patched steps
  slots-start zero l = refl
  slots-start (suc n) l =
      let q : length (patched s (offset s) (bytes_of σ) n) ≡ length s =
      patched-length attrs_length s (offset s) (bytes_of σ) (connector_slots s + output_slots s) (sizes σ) (slots-fit s acc) (slots_apart s acc) n (omega arith) in
      let f : offset s n + length (bytes_of σ n) ≤ length (patched s (offset s) (bytes_of σ) n) = omega (arith, sizes σ n, slots-fit s acc n l) in
      ap (λ t. patch t (offset s n) (bytes_of σ n)) (slots-start n (omega arith)) ∙ patch-start (patched s (offset s) (bytes_of σ) n) b (offset s n) (bytes_of σ n) f

-- the slots before j are written into a buffer that holds the image
pub record Fills (image : List ℕ) (σ : Slots) (filled₀ filled : List ℕ) (j : ℕ) : Type 0 where
  pub accepted : Accepted image
  pub count : length σ ≡ connector_slots image + output_slots image
  pub fits : length image ≤ length filled
  pub same : filled ≡ patched filled₀ (offset image) (bytes_of σ) j
  pub long : length filled ≡ length filled₀

pub fills-start : {image : List ℕ} {σ : Slots} {filled₀ : List ℕ} → refusal image ≡ None → length σ ≡ slot_count (model_of image) → length image ≤ length filled₀ → Fills image σ filled₀ filled₀ 0
unfolding patched steps
fills-start {image} h c f =
    let a : Accepted image = accepted image h in
    record { accepted = a; count = c ∙ rw (connectors-length image, outputs-length image); fits = f; same = refl; long = refl }

module _ {image : List ℕ} {σ : Slots} {filled₀ filled : List ℕ} {j : ℕ} (v : Fills image σ filled₀ filled j) where
  pub fills-inside : j < length σ → j < slot_count (model_of image)
  fills-inside h = rw (connectors-length image, outputs-length image) (omega (arith, v.count))

  pub fills-fit : {at : ℕ} → at ≡ offset image j → j < length σ → at + attrs_length ≤ length filled
  fills-fit o h = omega (arith, slots-fit image v.accepted j (omega (arith, v.count)), v.fits)

  pub fills-turn : {at : ℕ} {filled' : List ℕ} (d : Attrs) → filled' ≡ patch filled at (attrs_bytes (get_or σ j d)) → at ≡ offset image j → j < length σ → length filled' ≡ length filled
      → Fills image σ filled₀ filled' (j + 1)
  unfolding bytes_of slot
  fills-turn d e o h l = record {
    accepted = v.accepted;
    count = v.count;
    fits = omega (arith, v.fits);
    same = e ∙ rw (get_or-default σ j d no_attrs h, o, v.same, add-one j) (sym (patched-next filled₀ (offset image) (bytes_of σ) j));
    long = l ∙ v.long;
  }

  pub fills-done : (b : List ℕ) → filled₀ ≡ starts_with image b → j ≡ length σ → filled ≡ starts_with (with_slots image σ) b
  unfolding bytes_of
  fills-done b e h =
      let q : j ≡ connector_slots image + output_slots image = h ∙ v.count in
      v.same ∙ rw (e, q, with_slots-is image σ) (slots-start image v.accepted σ b (connector_slots image + output_slots image) (omega arith))
