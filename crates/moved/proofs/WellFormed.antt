-- Attributes that refusals 6 and 8 find no fault in: those of an accepted image are such, and rule 6 keeps them so.
use Prim.Native.Nat.{ℕ, zero, suc, ◌+◌, ◌^◌, ◌<◌}
use native.Mathlib.Decide.{ℕ_discrete, dec_lt}
use native.Mathlib.Omega.{arith}
use mathlib.Core.Path.{◌≡◌, refl, sym, ◌∙◌}
use mathlib.Core.Logic.{◌≢◌}
use mathlib.Core.Bool.{Bool, true, false, cond, not, ◌&&◌, ◌||◌, and-false}
use mathlib.Core.List.{List, Memᴰ}
use Rattle.std.specs.Prelude.{Option, Some, None}
use Rattle.base.proofs.Options.{none-ne-some}
use lib.ListN.{length, get_or, set, get_or-eq_default}
use lib.Seq.{get_or-set_same, get_or-set_other, set_out}
use lib.Dec.{eqb, leb, ltb}
use borrow.Author.Tests.{eqb-true, ne_eqb, le-ltb, leb-false, lt-leb, eq-eqb, not-false, lt-ltb}
use Rattle.numbers.specs.Bytes.{bit}
use Rattle.oce_model.specs.Format.{block_tag, boundary_input_attrs, boundary_input_tag, boundary_output_attrs, boundary_output_tag, connector_attrs, connector_tag, head_tag, integer_kind, quantity_bit, real_kind, text_tag, unit_bit}
use Rattle.oce_model.specs.Attributes.{attrs_at, declare_at, declared_at, marked, no_attrs, num}
use Rattle.oce_model.specs.declared.Attrs.{Attrs}
use Rattle.oce_model.specs.Image.{fields, of_tag}
use Rattle.oce_model.specs.Model.{block_at, boundary_input_at, boundary_output_at, connector_at, model_of}
use Rattle.oce_model.specs.Refusals.{attrs_offset, bad_attrs, bad_connector, bad_contents, bad_head, bad_or_none, bad_reference, bad_text_numbers, on_attrs, stray}
use Rattle.oce_model.specs.declared.Field.{Field}
use Rattle.unify.specs.Details.{bit_of, kind_of}
use Rattle.unify.specs.Slots.{put, put_at, slots_of, value}
use Rattle.unify.specs.Unify.{filled_to}
use Rattle.unify.specs.declared.Detail.{Detail}
use Rattle.unify.proofs.Details.{bit_of-lt, integer-bits, kind_of-le}
use Rattle.base.proofs.Lists.{or_parts}
use Rattle.numbers.proofs.Bits.{bit-other, bit-same}
use Rattle.oce_model.proofs.Accepted.{Accepted, connectors-length, outputs-length}
use Rattle.oce_model.proofs.Fields.{none-mem, nth, nth-mem, nth-tag}
use Rattle.moved.proofs.Invariants.{All, filled_to-keeps}
use Rattle.unify.proofs.Declared.{unmarked}
use Rattle.moved.proofs.Widths.{all_slots}

-- each part of the two refusals' tests; n is the number of texts
pub record Well (n : ℕ) (a : Attrs) : Type 0 where
  pub kind : ltb 4 a.kind ≡ false
  pub unbounded : (bit a.marks 7 && not (bit a.marks 6)) ≡ false
  pub integer : (eqb a.kind 1 && (bit a.marks 0 || bit a.marks 1 || bit a.marks 2 || bit a.marks 5 || bit a.marks 6)) ≡ false
  pub others : (ltb 1 a.kind && not (eqb a.marks 0)) ≡ false
  pub unset : (p : ℕ) → p < 6 → stray a p ≡ false
  pub texts : (p : ℕ) → p < 3 → (bit a.marks p && leb n (num a p)) ≡ false

-- ---- the tests say just that

record Ten (a b c d e f g h i j : Bool) : Type 0 where
  p₀ : a ≡ false
  p₁ : b ≡ false
  p₂ : c ≡ false
  p₃ : d ≡ false
  p₄ : e ≡ false
  p₅ : f ≡ false
  p₆ : g ≡ false
  p₇ : h ≡ false
  p₈ : i ≡ false
  p₉ : j ≡ false

ten : (a b c d e f g h i j : Bool) → (a || b || c || d || e || f || g || h || i || j) ≡ false → Ten a b c d e f g h i j
ten a b c d e f g h i j z =
    let q₉ = (or_parts (a || b || c || d || e || f || g || h || i) j z).0 in
    let q₈ = (or_parts (a || b || c || d || e || f || g || h) i q₉).0 in
    let q₇ = (or_parts (a || b || c || d || e || f || g) h q₈).0 in
    let q₆ = (or_parts (a || b || c || d || e || f) g q₇).0 in
    let q₅ = (or_parts (a || b || c || d || e) f q₆).0 in
    let q₄ = (or_parts (a || b || c || d) e q₅).0 in
    let q₃ = (or_parts (a || b || c) d q₄).0 in
    let q₂ = (or_parts (a || b) c q₃).0 in
    record {
      p₀ = (or_parts a b q₂).0;
      p₁ = (or_parts a b q₂).1;
      p₂ = (or_parts (a || b) c q₃).1;
      p₃ = (or_parts (a || b || c) d q₄).1;
      p₄ = (or_parts (a || b || c || d) e q₅).1;
      p₅ = (or_parts (a || b || c || d || e) f q₆).1;
      p₆ = (or_parts (a || b || c || d || e || f) g q₇).1;
      p₇ = (or_parts (a || b || c || d || e || f || g) h q₈).1;
      p₈ = (or_parts (a || b || c || d || e || f || g || h) i q₉).1;
      p₉ = (or_parts (a || b || c || d || e || f || g || h || i) j z).1;
    }

module _ (n : ℕ) (a : Attrs) where
  pub well-of : bad_attrs a ≡ false → bad_text_numbers n a ≡ false → Well n a
  unfolding bad_attrs bad_text_numbers
  well-of h g = record { kind = q.p₀; unbounded = q.p₁; integer = q.p₂; others = q.p₃; unset = unset; texts = texts }
    where
      k : ℕ
      k = a.kind

      b : ℕ
      b = a.marks

      q : Ten (ltb 4 k) (bit b 7 && not (bit b 6)) (eqb k 1 && (bit b 0 || bit b 1 || bit b 2 || bit b 5 || bit b 6)) (ltb 1 k && not (eqb b 0))
          (stray a 0) (stray a 1) (stray a 2) (stray a 3) (stray a 4) (stray a 5)
      q = ten _ _ _ _ _ _ _ _ _ _ h

      unset : (p : ℕ) → p < 6 → stray a p ≡ false
      unset zero l = q.p₄
      unset (suc zero) l = q.p₅
      unset (suc (suc zero)) l = q.p₆
      unset (suc (suc (suc zero))) l = q.p₇
      unset (suc (suc (suc (suc zero)))) l = q.p₈
      unset (suc (suc (suc (suc (suc zero))))) l = q.p₉
      unset (suc (suc (suc (suc (suc (suc p)))))) l = absurd (omega arith)

      text : ℕ → Bool
      text p = bit b p && leb n (num a p)

      texts : (p : ℕ) → p < 3 → (bit b p && leb n (num a p)) ≡ false
      texts zero l = (or_parts (text 0) (text 1) (or_parts _ (text 2) g).0).0
      texts (suc zero) l = (or_parts (text 0) (text 1) (or_parts _ (text 2) g).0).1
      texts (suc (suc zero)) l = (or_parts (text 0 || text 1) (text 2) g).1
      texts (suc (suc (suc p))) l = absurd (omega arith)

  pub of-well : Well n a → (bad_attrs a ≡ false) × (bad_text_numbers n a ≡ false)
  unfolding bad_attrs bad_text_numbers
  of-well w = (
    rw (w.kind, w.unbounded, w.integer, w.others, w.unset 0 (omega arith), w.unset 1 (omega arith), w.unset 2 (omega arith), w.unset 3 (omega arith), w.unset 4 (omega arith), w.unset 5 (omega arith)),
    rw (w.texts 0 (omega arith), w.texts 1 (omega arith), w.texts 2 (omega arith)),
  )

pub well-none : (n : ℕ) → Well n no_attrs
unfolding no_attrs bit stray
well-none n = record { kind = refl; unbounded = refl; integer = refl; others = refl; unset = λ p l. and-false (not (bit 0 p)); texts = texts }
  where
    texts : (p : ℕ) → p < 3 → (bit 0 p && leb n 0) ≡ false
    texts zero l = refl
    texts (suc zero) l = refl
    texts (suc (suc zero)) l = refl
    texts (suc (suc (suc p))) l = absurd (omega arith)

-- ---- unit and quantity are Real's

plain-marks : (k b : ℕ) → (eqb k 1 && (bit b 0 || bit b 1 || bit b 2 || bit b 5 || bit b 6)) ≡ false → (ltb 1 k && not (eqb b 0)) ≡ false → k ≢ 0 → (bit b 0 ≡ false) × (bit b 1 ≡ false)
unfolding bit
plain-marks k b g h n = arm (ℕ_discrete k 1)
  where
    first_two : (x y z u w : Bool) → (x || y || z || u || w) ≡ false → (x ≡ false) × (y ≡ false)
    first_two x y z u w h =
        let p = (or_parts (x || y) z (or_parts (x || y || z) u (or_parts (x || y || z || u) w h).0).0).0 in
        ((or_parts x y p).0, (or_parts x y p).1)

    arm : Dec (k ≡ 1) → (bit b 0 ≡ false) × (bit b 1 ≡ false)
    arm (yes e) = first_two (bit b 0) (bit b 1) (bit b 2) (bit b 5) (bit b 6) (rw (eq-eqb k 1 e) at g)
    arm (no m) =
        let z : b ≡ 0 = eqb-true b 0 (not-false _ (rw (lt-ltb 1 k (omega arith)) at h)) in
        rw z (refl, refl)

unmarked-none : (a : Attrs) (p : ℕ) → bit a.marks p ≡ false → declared_at a p ≡ None
unfolding declared_at
unmarked-none a p h = rw h

-- kinds other than Real have neither
pub well-plain : (n : ℕ) (a : Attrs) → Well n a → a.kind ≢ real_kind → (declared_at a quantity_bit ≡ None) × (declared_at a unit_bit ≡ None)
well-plain n a w e =
    let p = plain-marks a.kind a.marks w.integer w.others e in
    (unmarked-none a 0 p.0, unmarked-none a 1 p.1)

-- ---- rule 6 keeps them

-- a value that may stand under bit p: a text number is below the number of texts
abbrev pub Ok : ℕ → ℕ → ℕ → Type 0
Ok n p v = p < 3 → v < n

module _ (n : ℕ) (d : Detail) (v : ℕ) (a : Attrs) (ok : Ok n (bit_of d) v) (w : Well n a) (same : a.kind ≡ kind_of d) (free : declared_at a (bit_of d) ≡ None) where
  p : ℕ
  p = bit_of d

  other : (q : ℕ) → q ≢ p → bit (a.marks + 2 ^ p) q ≡ bit a.marks q
  unfolding p
  other q e = bit-other a.marks (bit_of d) q (unmarked a (bit_of d) free) e

  own : bit (a.marks + 2 ^ p) p ≡ true
  unfolding p
  own = bit-same a.marks (bit_of d) (unmarked a (bit_of d) free)

  declare_at-well : Well n (declare_at a (bit_of d) v)
  unfolding declare_at p stray
  declare_at-well = record {
    kind = w.kind;
    unbounded = rw (other 7 (omega (arith, bit_of-lt d)), other 6 (omega (arith, bit_of-lt d))) w.unbounded;
    integer = int (ℕ_discrete a.kind 1);
    others = rw (le-ltb 1 a.kind (omega (arith, kind_of-le d)));
    unset = λ q l. unset q l (ℕ_discrete q p);
    texts = λ q l. texts q l (ℕ_discrete q p) (dec_lt p (length a.nums));
  }
    where
      m : ℕ
      m = a.marks + 2 ^ p

      int : Dec (a.kind ≡ integer_kind) → (eqb a.kind 1 && (bit m 0 || bit m 1 || bit m 2 || bit m 5 || bit m 6)) ≡ false
      int (no e) = rw (ne_eqb a.kind 1 e)
      int (yes e) =
          let (x, y) = integer-bits d (sym same ∙ e) in
          rw (other 0 (omega arith), other 1 (omega arith), other 2 (omega arith), other 5 (omega arith), other 6 (omega arith)) w.integer

      unset : (q : ℕ) → q < 6 → Dec (q ≡ p) → (not (bit m q) && not (eqb (get_or (set a.nums p v) q 0) 0)) ≡ false
      unset q l (yes e) = rw (e, own)
      unset q l (no e) = rw (other q e, get_or-set_other a.nums p q v 0 e) (w.unset q l)

      texts : (q : ℕ) → q < 3 → Dec (q ≡ p) → Dec (p < length a.nums) → (bit m q && leb n (get_or (set a.nums p v) q 0)) ≡ false
      texts q l (no e) k = rw (other q e, get_or-set_other a.nums p q v 0 e) (w.texts q l)
      texts q l (yes e) (yes k) = rw (e, own, get_or-set_same a.nums p v 0 k) (lt-leb n v (ok (omega arith)))
      texts q l (yes e) (no k) =
          let z : v < n = ok (omega arith) in
          rw (e, own, set_out a.nums p v (omega arith), get_or-eq_default a.nums 0 {n = p} (omega arith)) (lt-leb n 0 (omega arith))

pub put-well : (n : ℕ) (d : Detail) (v : ℕ) (a : Attrs) → Ok n (bit_of d) v → Well n a → Well n (put d v a)
unfolding put
put-well n d v a ok w = arm (eqb a.kind (kind_of d)) refl (declared_at a (bit_of d)) refl
  where
    arm : (b : Bool) → eqb a.kind (kind_of d) ≡ b → (o : Option ℕ) → declared_at a (bit_of d) ≡ o → Well n (cond b (put_at (bit_of d) v a o) a)
    arm false e o q = w
    arm true e (Some u) q = w
    arm true e None q = declare_at-well n d v a ok w (eqb-true _ _ e) q

pub value-text : (n : ℕ) (d : Detail) (v : ℕ) (a : Attrs) → Well n a → value d a ≡ Some v → Ok n (bit_of d) v
unfolding value declared_at
value-text n d v a w h l = arm (eqb a.kind (kind_of d)) (bit a.marks (bit_of d)) h (w.texts (bit_of d) l)
  where
    arm : (b t : Bool) → cond b (marked t (num a (bit_of d))) None ≡ Some v → (t && leb n (num a (bit_of d))) ≡ false → v < n
    arm false t h g = absurd (none-ne-some v h)
    arm true false h g = absurd (none-ne-some v h)
    arm true true h g = let e : num a (bit_of d) ≡ v = cc in rw e at (leb-false n (num a (bit_of d)) g)

-- ---- the attributes of an accepted image

-- refusals 6 and 8 find no fault in the attributes of a field
contents-attrs : (s : List ℕ) (f : Field) → bad_contents s f ≡ false → on_attrs s bad_attrs (attrs_offset f) ≡ false
unfolding bad_contents
contents-attrs s f h = (or_parts ((eqb f.tag head_tag && bad_head s f.at) || (eqb f.tag connector_tag && bad_connector (connector_at s f.at))) _ h).1

reference-attrs : (n : ℕ) (s : List ℕ) (f : Field) → bad_reference n s f ≡ false → on_attrs s (bad_text_numbers n) (attrs_offset f) ≡ false
unfolding bad_reference
reference-attrs n s f h =
    (or_parts
    ((eqb f.tag block_tag && bad_or_none n (block_at s f.at).instance_iri) || (eqb f.tag connector_tag && bad_or_none n (connector_at s f.at).iri)
    || (eqb f.tag boundary_input_tag && leb n (boundary_input_at s f.at).iri) || (eqb f.tag boundary_output_tag && leb n (boundary_output_at s f.at).iri))
    _ h).1

-- how many texts there are
abbrev pub text_count : List ℕ → ℕ
text_count s = length (of_tag text_tag (fields s))

module _ (s : List ℕ) (acc : Accepted s) where
  pub field-contents : (f : Field) → Memᴰ f (fields s) → bad_contents s f ≡ false
  field-contents f m = none-mem (bad_contents s) (fields s) acc.contents f m

  pub field-reference : (f : Field) → Memᴰ f (fields s) → bad_reference (text_count s) s f ≡ false
  field-reference f m = none-mem (bad_reference (text_count s) s) (fields s) acc.numbers f m

  module _ (f : Field) (m : Memᴰ f (fields s)) where
    pub well-connector : f.tag ≡ connector_tag → Well (text_count s) (attrs_at s (f.at + connector_attrs))
    unfolding attrs_offset
    well-connector e = well-of _ _ (rw e at (contents-attrs s f (field-contents f m))) (rw e at (reference-attrs _ s f (field-reference f m)))

    pub well-input : f.tag ≡ boundary_input_tag → Well (text_count s) (attrs_at s (f.at + boundary_input_attrs))
    unfolding attrs_offset
    well-input e = well-of _ _ (rw e at (contents-attrs s f (field-contents f m))) (rw e at (reference-attrs _ s f (field-reference f m)))

    pub well-output : f.tag ≡ boundary_output_tag → Well (text_count s) (attrs_at s (f.at + boundary_output_attrs))
    unfolding attrs_offset
    well-output e = well-of _ _ (rw e at (contents-attrs s f (field-contents f m))) (rw e at (reference-attrs _ s f (field-reference f m)))

  image-well : All (Well (text_count s)) (slots_of (model_of s))
  unfolding connector_at boundary_output_at
  image-well = all_slots (Well (text_count s)) s (well-none (text_count s))
      (λ i l. let k = rw (connectors-length s) at l in well-connector (nth connector_tag s i) (nth-mem connector_tag s i k) (nth-tag connector_tag s i k))
      (λ i l. let k = rw (outputs-length s) at l in well-output (nth boundary_output_tag s i) (nth-mem boundary_output_tag s i k) (nth-tag boundary_output_tag s i k))

  pub filled-well : (n : ℕ) → All (Well (text_count s)) (filled_to (model_of s) n)
  filled-well n = filled_to-keeps (Well (text_count s)) (Ok (text_count s)) (put-well (text_count s)) (value-text (text_count s)) (model_of s) n image-well
