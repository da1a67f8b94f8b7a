-- One image of a batch: its summary, the bytes it needs, and its part of the output.
use Prim.Native.Nat.{ℕ, ◌+◌, ◌-◌, ◌*◌, ◌%◌, ◌≤◌, ◌<◌}
use native.Mathlib.Nat.{div-div-eq-div-mul}
use native.Mathlib.Omega.{arith}
use mathlib.Core.Path.{◌≡◌, refl, sym, ap, ◌∙◌}
use mathlib.Core.List.{List, [], ◌∷◌, ◌++◌, append-nil}
use Rattle.std.specs.Prelude.{Some, None, Ok, Err}
use lib.ListN.{length, get_or}
use Rattle.std.specs.Int.{w32, to_le_bytes}
use Rattle.numbers.specs.Bytes.{le_bytes}
use borrow.Rule.Slice.PartMut.{put_mid, mid_of}
use Rattle.base.specs.Buffers.{patch, starts_with}
use Rattle.base.proofs.Buffers.{patch-reversed, starts_with-none, starts_with-patch, starts_with-length}
use Rattle.base.proofs.Parts.{part_room, part-patched, part-behind}
use Rattle.oce_model.specs.Refusals.{refusal}
use Rattle.oce_model.specs.declared.Refusal.{Refusal}
use Rattle.oce_diag.specs.Encoding.{diagnostic_size}
use Rattle.oce_diag.specs.declared.Counted.{Counted}
use Rattle.oce_diag.proofs.Encoding.{report_bytes-length}
use Rattle.oce_diag.proofs.Putting.{put-errors, put-warnings, put-room}
use Rattle.unify_clusters.specs.Slots.{SlotTable}
use Rattle.outcome.specs.Answer.{Answer, report_of}
use Rattle.rules.specs.Ran.{Ran}
use Rattle.batch.specs.Output.{summary_size, count_of, size_of, summary_of, image_report, summary_field, summary_bytes, image_output}
use Rattle.batch.proofs.Sizes.{summary_bytes-length, report-long, output-long}
use Rattle.batch_image.specs.Summarized.{Summarized, Summed, Placed}

-- ---- the check

counted-is : (c : Counted) {e w : ℕ} → c.errors ≡ e → c.warnings ≡ w → c ≡ record { errors = e; warnings = w }
counted-is c h k = rw (← h, ← k) refl

-- counted, and written if it fits
pub summed-counted : {s b b' : List ℕ} {t : SlotTable} {c : Counted} → refusal s ≡ None → Ran s t b b' c → Summed s b b' (Ok c)
unfolding summary_of image_report report_of
summed-counted {s} {c = c} h q = record {
  summarized = record { is = rw h (ap Ok (counted-is c (put-errors q.put refl) (put-warnings q.put refl))); few = omega (arith, q.few) };
  bytes = rw h (λ l. put-room q.put refl (rw (report_bytes-length (report_of s)) at l));
}

-- turned away: the report stays as it is
pub summed-refused : {s : List ℕ} (b : List ℕ) {r : Refusal} → refusal s ≡ Some r → Summed s b b (Err r)
unfolding summary_of image_report
summed-refused {s} b h = record {
  summarized = record { is = rw h; few = omega arith };
  bytes = rw h (λ l. sym (starts_with-none b));
}

-- ---- the bytes

none_left : (bs : List ℕ) → length bs ≡ 0 → bs ≡ []
none_left [] e = refl
none_left (b ∷ bs) e = absurd (omega arith)

module _ (s : List ℕ) {a : Answer} (v : a ≡ summary_of s) where
  report-size : length (image_report s) ≡ diagnostic_size * count_of a
  report-size = report-long s ∙ ap (λ (x : Answer). diagnostic_size * count_of x) (sym v)

  pub output-size : length (image_output s) ≡ size_of a
  output-size = output-long s ∙ ap size_of (sym v)

  field_fits : {n : ℕ} → length (image_output s) ≤ n → summary_size ≤ n
  field_fits h = let e = output-size in omega arith

  pub field_room : (o : List ℕ) → length (image_output s) ≤ length o → 0 + summary_size ≤ length o
  field_room o l = let k = field_fits l in omega arith

  none-due : count_of a ≡ 0 → image_report s ≡ []
  none-due z = none_left (image_report s) (report-size ∙ rw z)

pub field-bytes : (a : Answer) (o : List ℕ) (at : ℕ) {h o₁ : List ℕ} → h ≡ summary_bytes a → o₁ ≡ patch o at h → o₁ ≡ patch o at (summary_bytes a)
field-bytes a o at e p = p ∙ ap (patch o at) e

-- ---- its part of the output

module _ (s : List ℕ) {a : Answer} (v : a ≡ summary_of s) (o : List ℕ) {o₁ : List ℕ} (p : o₁ ≡ patch o 0 (summary_bytes a)) (room : length (image_output s) ≤ length o) where
  field_is : o₁ ≡ starts_with (summary_bytes (summary_of s)) o
  field_is = p ∙ ap (λ x. patch o 0 (summary_bytes x)) v ∙ sym (starts_with-patch (summary_bytes (summary_of s)) o)

  field-length : length o₁ ≡ length o
  field-length =
      let n = output-size s v in
      ap length field_is ∙ starts_with-length (summary_bytes (summary_of s)) o (rw (summary_bytes-length (summary_of s)) (omega arith))

  pub behind-field : summary_size ≤ length o₁
  behind-field = let n = field-length in let k = field_fits s v room in omega arith

  -- nothing behind the field
  pub image-bare : {n : ℕ} → n ≡ count_of a → n ≡ 0 → o₁ ≡ starts_with (image_output s) o
  unfolding image_output
  image-bare m z = field_is ∙ rw (none-due s v (sym m ∙ z), append-nil)

  -- the report there
  pub image-whole : (k : ℕ) {zs : List ℕ} {q : Answer} → Summed s (mid_of summary_size k o₁) zs q → k ≡ length o₁ - summary_size → put_mid summary_size k o₁ zs ≡ starts_with (image_output s) o
  unfolding image_output
  image-whole k {zs} w l =
      let g = field-length in
      let n = output-size s v in
      let m = report-size s v in
      part-behind summary_size (summary_bytes (summary_of s)) (image_report s) o o₁ zs k (sym (summary_bytes-length (summary_of s))) (omega arith) field_is (w.bytes (part_room o₁ summary_size k (length (image_report s)) l (omega arith)))

-- ---- its part of the output, before it is known whether there is room for all

module _ {s : List ℕ} {a : Answer} (o : ℕ) (e : List ℕ) where
  -- no room for the field
  pub placed-short : Summarized s a → length e < o + summary_size → Placed s o e e a
  placed-short v h = record { summarized = v; bytes = λ l. absurd (let n = output-size s v.is in omega arith) }

  -- the report, if it fits, then the field before it
  pub placed-there : (k : ℕ) {zs e₂ : List ℕ} → Summed s (mid_of (o + summary_size) k e) zs a → k ≡ length e - (o + summary_size) → e₂ ≡ patch (put_mid (o + summary_size) k e zs) o (summary_bytes a) → Placed s o e e₂ a
  unfolding image_output
  placed-there k {zs} {e₂} w m p = record { summarized = w.summarized; bytes = λ l. there l }
    where
      v : Summarized s a
      v = w.summarized

      b : length (summary_bytes a) ≡ summary_size
      b = summary_bytes-length a

      there : o + length (image_output s) ≤ length e → e₂ ≡ patch e o (image_output s)
      there l =
          let n = output-size s v.is in
          let t = report-size s v.is in
          let z : put_mid (o + summary_size) k e zs ≡ patch e (o + summary_size) (image_report s) =
          part-patched e (image_report s) (o + summary_size) k (w.bytes (part_room e (o + summary_size) k (length (image_report s)) m (omega arith))) m in
          p ∙ rw z (rw b at (patch-reversed e o (summary_bytes a) (image_report s) (omega (arith, b)))) ∙ ap (λ x. patch e o (summary_bytes x ++ image_report s)) v.is

-- a field from the parts that code puts side by side
pub field-parts : (r : Refusal) (c : Counted) {os es ws : List ℕ} → os ≡ to_le_bytes w32 r.offset → es ≡ to_le_bytes w32 c.errors → ws ≡ to_le_bytes w32 c.warnings
    → 49 ∷ 13 ∷ 0 ∷ (r.number % 256) ∷ get_or os 0 0 ∷ get_or os 1 0 ∷ get_or os 2 0 ∷ get_or os 3 0 ∷ get_or es 0 0 ∷ get_or es 1 0 ∷ get_or es 2 0 ∷ get_or es 3 0
    ∷ get_or ws 0 0 ∷ get_or ws 1 0 ∷ get_or ws 2 0 ∷ get_or ws 3 0 ∷ [] ≡ summary_field r c
unfolding summary_field le_bytes
field-parts r c x y z =
    let a = r.offset in
    let e = c.errors in
    let w = c.warnings in
    rw (x, y, z, div-div-eq-div-mul a 256 256, div-div-eq-div-mul a 65536 256, div-div-eq-div-mul e 256 256, div-div-eq-div-mul e 65536 256, div-div-eq-div-mul w 256 256, div-div-eq-div-mul w 65536 256) refl
