-- The texts of an accepted image, by the table of their offsets.
use Prim.Native.Nat.{ℕ, zero, suc, ◌+◌, ◌<◌, ◌≤◌}
use native.Mathlib.Decide.{dec_lt}
use native.Mathlib.Omega.{arith}
use mathlib.Core.Path.{◌≡◌, sym, ◌∙◌}
use mathlib.Core.Logic.{◌⊎◌, inl, inr}
use mathlib.Core.Bool.{Bool, true, false, cond}
use mathlib.Core.List.Memᴰ
use mathlib.Core.List.{List, [], ◌∷◌, map, Memᴰ}
use lib.Dec.{leb}
use borrow.Author.Tests.{ltb-false}
use lib.ListN.{length, get_or, take, drop, length-map, length-take, get_or-eq_default}
use Rattle.base.proofs.Members.{get_or-map}
use Rattle.numbers.specs.Bytes.{byte, le16}
use Rattle.oce_model.specs.Format.{leading_bytes, longest_image, longest_text, text_tag}
use Rattle.oce_model.specs.Image.{field_at, field_end, fields, fields_from, of_tag, ord_of}
use Rattle.oce_model.specs.declared.Field.{Field}
use Rattle.oce_model.specs.Texts.{text_of}
use Rattle.oce_model.specs.Model.{model_of, text}
use Rattle.oce_model.specs.Refusals.{bad_length}
use Rattle.oce_model.proofs.Accepted.{accepted}
use Rattle.oce_model.proofs.Fields.{nth, nth-mem, nth-tag, none-mem}
use Rattle.oce_model.proofs.Places.{field-end}
use Rattle.image_accept.specs.Layout.{Laid, offsets_of}
use Rattle.image_accept.specs.declared.Layout.{Layout}
use Rattle.image_records.proofs.Offsets.{many, stands}

-- a field has the length that stands behind its tag
len-from : (k : ℕ) (s : List ℕ) (at prev n : ℕ) (f : Field) → Memᴰ f (fields_from k s at prev n) → f.len ≡ le16 s (f.at + 1)
unfolding fields_from field_at
len-from zero s at prev n f m = absurd (Memᴰ.not-nil m)
len-from (suc k) s at prev n f m = arm (leb (field_end s at) (length s)) m (len-from k s (field_end s at) (byte s at) (suc (ord_of prev n (byte s at))) f)
  where
    o : ℕ
    o = ord_of prev n (byte s at)

    rest : List Field
    rest = fields_from k s (field_end s at) (byte s at) (suc o)

    one : (f ≡ field_at s at prev o) ⊎ Memᴰ f rest → (Memᴰ f rest → f.len ≡ le16 s (f.at + 1)) → f.len ≡ le16 s (f.at + 1)
    one (inl e) ih = rw e
    one (inr q) ih = ih q

    arm : (b : Bool) → Memᴰ f (cond b (field_at s at prev o ∷ rest) []) → (Memᴰ f rest → f.len ≡ le16 s (f.at + 1)) → f.len ≡ le16 s (f.at + 1)
    arm true m ih = one (Memᴰ.cases_cons m) ih
    arm false m ih = absurd (Memᴰ.not-nil m)

field-len : (s : List ℕ) (f : Field) → Memᴰ f (fields s) → f.len ≡ le16 s (f.at + 1)
unfolding fields
field-len s f m = len-from (length s) s 0 0 0 f m

module _ {s : List ℕ} {l : Layout} (h : Laid s l) {texts : List ℕ} (g : texts ≡ offsets_of text_tag s) {i : ℕ} where
  -- no text has the number i
  pub text-none : length texts ≤ i → [] ≡ text (model_of s) i
  unfolding text model_of offsets_of
  text-none k =
      let n : length (of_tag text_tag (fields s)) ≤ i = rw (g, length-map) at k in
      sym (get_or-eq_default (model_of s).texts [] (rw length-map n))

  module _ (k : i < length texts) where
    pub text-near : get_or texts i 0 ≤ longest_image
    text-near =
        let a : get_or texts i 0 ≡ (nth text_tag s i).at = stands text_tag s g k in
        let f = field-end s (nth text_tag s i) (nth-mem text_tag s i (many text_tag s g k)) in
        let n : length s ≤ longest_image = (accepted s h.accepted).short in
        omega arith

    pub text-is : {at n : ℕ} {r : List ℕ} → at ≡ get_or texts i 0 → n ≡ le16 s (at + 1) → r ≡ take n (drop (at + leading_bytes) s) → r ≡ text (model_of s) i
    unfolding text model_of text_of
    text-is {at} {n} e p q =
        let a : at ≡ (nth text_tag s i).at = e ∙ stands text_tag s g k in
        let z : n ≡ (nth text_tag s i).len = p ∙ rw a (sym (field-len s (nth text_tag s i) (nth-mem text_tag s i (many text_tag s g k)))) in
        q ∙ rw (z, a) (sym (get_or-map (text_of s) (of_tag text_tag (fields s)) i (field_at s 0 0 0) [] (many text_tag s g k)))

-- no text has more than 255 bytes
pub text-short : {s : List ℕ} {l : Layout} → Laid s l → (i : ℕ) → length (text (model_of s) i) ≤ longest_text
unfolding text model_of text_of bad_length
text-short {s} {l} h i = arm (dec_lt i (length fs))
  where
    fs : List Field
    fs = of_tag text_tag (fields s)

    arm : Dec (i < length fs) → length (text (model_of s) i) ≤ longest_text
    arm (yes k) =
        let f = nth text_tag s i in
        let g = none-mem (bad_length s) (fields s) (accepted s h.accepted).lengths f (nth-mem text_tag s i k) in
        let n : f.len ≤ longest_text = ltb-false longest_text f.len (rw (nth-tag text_tag s i k) at g) in
        rw (get_or-map (text_of s) fs i (field_at s 0 0 0) [] k) (rw length-take (omega arith))
    arm (no k) =
        let past : length (map (text_of s) fs) ≤ i = rw length-map (omega arith) in
        rw (get_or-eq_default (map (text_of s) fs) [] past) (omega arith)
