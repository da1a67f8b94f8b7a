-- A batch made of images holds those images, and none of its fields is at fault; a field behind 4,096 of them is, whatever stands in it.
use Prim.Native.Nat.{ℕ, suc, ◌+◌, ◌-◌, ◌≤◌, ◌<◌}
use native.Mathlib.Nat.{add-zero, zero-add}
use native.Mathlib.Omega.{arith}
use mathlib.Core.Path.{◌≡◌, refl, sym, ap, ◌∙◌}
use mathlib.Core.Bool.{Bool, true, false, cond, ◌&&◌}
use mathlib.Core.List.{List, [], ◌∷◌, ◌++◌, map, append_assoc, append-nil}
use Rattle.std.specs.Prelude.{Some, None}
use Rattle.base.proofs.Options.{some-ne-none}
use lib.Dec.{leb, ltb, eqb}
use lib.ListN.{length, drop, length-append}
use lib.Seq.{take-append_seam, drop-append-add}
use borrow.Author.Tests.{leb-true, lt-leb, lt-ltb, le-ltb, eqb-true}
use Rattle.base.specs.Lists.{all}
use Rattle.numbers.specs.Bytes.{byte, le_bytes}
use Rattle.oce_model.specs.Format.{leading_bytes, longest_image}
use Rattle.oce_model.specs.Image.{field_at, field_end, fields, fields_from, first, ord_of, stop, stop_from}
use Rattle.oce_model.specs.Texts.{text_of}
use Rattle.oce_model.specs.declared.Field.{Field}
use Rattle.oce_model.specs.Build.{field}
use Rattle.oce_model.proofs.Fields.{first-later}
use Rattle.oce_model.proofs.Behind.{IsField, row, long-at, fields-step, stop_step, fields-end, stop-end, built-is}
use Rattle.batch.specs.Fields.{image_tag, most_images, bad_field, or_else, first_fault, images}
use Rattle.batch.specs.Packed.{image_field, pack, packable}

-- ---- the fields of packed images

-- the first is behind a field with the tag prev, with o images right before it
unfoldable rows : List (List ℕ) → ℕ → ℕ → ℕ → List Field
rows [] at prev o = []
rows (s ∷ ss) at prev o = row image_tag (length s) at prev o ∷ rows ss (at + leading_bytes + length s) image_tag (suc o)

-- the tag before what stands behind them, and how many images stand right before it
abbrev last_tag : List (List ℕ) → ℕ → ℕ
last_tag [] prev = prev
last_tag (s ∷ ss) prev = image_tag

abbrev behind : List (List ℕ) → ℕ → ℕ → ℕ
behind [] prev n = n
behind (s ∷ ss) prev n = suc (ord_of prev n image_tag) + length ss

and_first : (a b : Bool) → (a && b) ≡ true → a ≡ true
and_first true b e = refl
and_first false b e = e

and_second : (a b : Bool) → (a && b) ≡ true → b ≡ true
and_second true b e = e
and_second false b e = let z : ◌≡◌ {A = ℕ} 0 1 = ap (λ (x : Bool). cond {A = ℕ} x 1 0) e in absurd (omega arith)

module _ (s : List ℕ) (ss : List (List ℕ)) (h : packable (s ∷ ss) ≡ true) where
  head-is : IsField image_tag (length s) (image_field s)
  unfolding packable all
  head-is = built-is image_tag s (let l = leb-true (length s) longest_image (and_first (leb (length s) longest_image) (packable ss) h) in omega arith)

  tail-packable : packable ss ≡ true
  unfolding packable all
  tail-packable = and_second (leb (length s) longest_image) (packable ss) h

own : (n : ℕ) → ord_of image_tag n image_tag ≡ n
own n = refl

next : (s : List ℕ) (ss : List (List ℕ)) (prev n : ℕ) → behind ss image_tag (suc (ord_of prev n image_tag)) ≡ behind (s ∷ ss) prev n
next s [] prev n = sym (add-zero _)
next s (t ∷ ts) prev n = rw (own (suc (ord_of prev n image_tag))) (omega arith)

last : (ss : List (List ℕ)) → last_tag ss image_tag ≡ image_tag
last [] = refl
last (s ∷ ss) = refl

seam : (pre r p rest : List ℕ) → pre ++ ((r ++ p) ++ rest) ≡ pre ++ (r ++ (p ++ rest))
seam pre r p rest = rw (append_assoc r p rest)

pack-length : (s : List ℕ) (ss : List (List ℕ)) (pre : List ℕ) → length (pre ++ pack (s ∷ ss)) ≡ length ((pre ++ image_field s) ++ pack ss)
unfolding pack
pack-length s ss pre = rw (append_assoc pre (image_field s) (pack ss))

walked : (ss : List (List ℕ)) (k : ℕ) (pre rest : List ℕ) (prev n : ℕ) → packable ss ≡ true
    → fields_from (length ss + k) (pre ++ (pack ss ++ rest)) (length pre) prev n
    ≡ rows ss (length pre) prev (ord_of prev n image_tag) ++ fields_from k (pre ++ (pack ss ++ rest)) (length (pre ++ pack ss)) (last_tag ss prev) (behind ss prev n)
unfolding pack rows
walked [] k pre rest prev n h = rw (zero-add k, append-nil pre)
walked (s ∷ ss) k pre rest prev n h =
    let is = head-is s ss h in
    let o = ord_of prev n image_tag in
    let e : suc (length ss) + k ≡ suc (length ss + k) = omega arith in
    let again = walked ss k (pre ++ image_field s) rest image_tag (suc o) (tail-packable s ss h) in
    rw (e, seam pre (image_field s) (pack ss) rest)
    (fields-step is pre (pack ss ++ rest) (length ss + k) prev n
    ∙ ap (λ fs. row image_tag (length s) (length pre) prev o ∷ fs)
    (again
    ∙ rw (own (suc o), long-at is pre [], next s ss prev n, last ss, ← (append_assoc pre (image_field s) (pack ss)), append_assoc pre (image_field s) (pack ss ++ rest))))

stopped : (ss : List (List ℕ)) (k : ℕ) (pre rest : List ℕ) → packable ss ≡ true
    → stop_from (length ss + k) (pre ++ (pack ss ++ rest)) (length pre) ≡ stop_from k (pre ++ (pack ss ++ rest)) (length (pre ++ pack ss))
unfolding pack
stopped [] k pre rest h = rw (zero-add k, append-nil pre)
stopped (s ∷ ss) k pre rest h =
    let e : suc (length ss) + k ≡ suc (length ss + k) = omega arith in
    rw (e, seam pre (image_field s) (pack ss) rest)
    (stop_step (head-is s ss h) pre (pack ss ++ rest) (length ss + k)
    ∙ stopped ss k (pre ++ image_field s) rest (tail-packable s ss h)
    ∙ rw (← (append_assoc pre (image_field s) (pack ss)), append_assoc pre (image_field s) (pack ss ++ rest)))

-- none of them is bad
rows-good : (ss : List (List ℕ)) (at prev o : ℕ) → o + length ss ≤ most_images → first bad_field (rows ss at prev o) ≡ None
unfolding rows bad_field first
rows-good [] at prev o h = refl
rows-good (s ∷ ss) at prev o h =
    let l : o < most_images = omega arith in
    let g : leb most_images o ≡ false = lt-leb most_images o l in
    first-later bad_field (row image_tag (length s) at prev o) (rows ss (at + leading_bytes + length s) image_tag (suc o)) (rw g) ∙ rows-good ss (at + leading_bytes + length s) image_tag (suc o) (omega arith)

first-behind : (p : Field → Bool) (fs gs : List Field) → first p fs ≡ None → first p (fs ++ gs) ≡ first p gs
unfolding first
first-behind p [] gs h = refl
first-behind p (f ∷ fs) gs h = arm (p f) h (first-behind p fs gs)
  where
    arm : (b : Bool) → cond b (Some f.at) (first p fs) ≡ None → (first p fs ≡ None → first p (fs ++ gs) ≡ first p gs) → cond b (Some f.at) (first p (fs ++ gs)) ≡ first p gs
    arm true e ih = absurd (some-ne-none f.at e)
    arm false e ih = ih e

-- their contents are the images
content : (t pre rest : List ℕ) (prev o : ℕ) → text_of (pre ++ (image_field t ++ rest)) (row image_tag (length t) (length pre) prev o) ≡ t
unfolding text_of field le_bytes
content t pre rest prev o =
    let past : drop (length pre + leading_bytes) (pre ++ (image_field t ++ rest)) ≡ t ++ rest = drop-append-add pre (image_field t ++ rest) leading_bytes in
    rw past (take-append_seam t rest)

contents : (ss : List (List ℕ)) (pre rest s : List ℕ) (prev o : ℕ) → packable ss ≡ true → s ≡ pre ++ (pack ss ++ rest) → map (text_of s) (rows ss (length pre) prev o) ≡ ss
unfolding pack rows
contents [] pre rest s prev o h e = refl
contents (t ∷ ts) pre rest s prev o h e = rw (here, rw (long-at is pre []) at (contents ts (pre ++ image_field t) rest s image_tag (suc o) (tail-packable t ts h) later))
  where
    is : IsField image_tag (length t) (image_field t)
    is = head-is t ts h

    later : s ≡ (pre ++ image_field t) ++ (pack ts ++ rest)
    later = e ∙ seam pre (image_field t) (pack ts) rest ∙ sym (append_assoc pre (image_field t) (pack ts ++ rest))

    here : text_of s (row image_tag (length t) (length pre) prev o) ≡ t
    here = rw (e, seam pre (image_field t) (pack ts) rest) (content t pre (pack ts ++ rest) prev o)

-- ---- a batch made of images, with bytes behind it

field-long : (s : List ℕ) → 3 + length s ≤ length (image_field s)
unfolding field le_bytes
field-long s = omega arith

pack-long : (ss : List (List ℕ)) → length ss ≤ length (pack ss)
unfolding pack
pack-long [] = omega arith
pack-long (s ∷ ss) = let h = pack-long ss in let f = field-long s in rw (length-append (image_field s) (pack ss)) (omega arith)

module _ (ss : List (List ℕ)) (h : packable ss ≡ true) (rest : List ℕ) (k : ℕ) (e : length (pack ss ++ rest) ≡ length ss + k) where
  fields-are : fields (pack ss ++ rest) ≡ rows ss 0 0 0 ++ fields_from k (pack ss ++ rest) (length (pack ss)) (last_tag ss 0) (behind ss 0 0)
  unfolding fields
  fields-are = rw e (walked ss k [] rest 0 0 h)

  stop_is : stop (pack ss ++ rest) ≡ stop_from k (pack ss ++ rest) (length (pack ss))
  unfolding stop
  stop_is = rw e (stopped ss k [] rest h)

-- what is left of the walk over a batch made of images
left : (ss : List (List ℕ)) (rest : List ℕ) → length (pack ss ++ rest) ≡ length ss + (length (pack ss ++ rest) - length ss)
left ss rest = let l = pack-long ss in let n = length-append (pack ss) rest in omega arith

-- a batch made of images holds them
pub packed-images : (ss : List (List ℕ)) → packable ss ≡ true → images (pack ss) ≡ ss
unfolding images
packed-images ss h =
    let e = fields-are ss h [] (length (pack ss ++ []) - length ss) (left ss []) ∙ ap (λ fs. rows ss 0 0 0 ++ fs) (fields-end (pack ss) _ _ _) ∙ append-nil (rows ss 0 0 0) in
    rw (rw (append-nil (pack ss)) at e) (contents ss [] [] (pack ss) 0 0 h (sym (append-nil (pack ss))))

-- and no field of it is at fault, where there are no more than there may be
pub packed-good : (ss : List (List ℕ)) → packable ss ≡ true → length ss ≤ most_images → first_fault (pack ss) ≡ None
unfolding first_fault
packed-good ss h few =
    let k = length (pack ss ++ []) - length ss in
    let e = fields-are ss h [] k (left ss []) ∙ ap (λ fs. rows ss 0 0 0 ++ fs) (fields-end (pack ss) _ _ _) ∙ append-nil (rows ss 0 0 0) in
    let f : fields (pack ss) ≡ rows ss 0 0 0 = rw (append-nil (pack ss)) at e in
    let t : stop (pack ss) ≡ length (pack ss) = rw (append-nil (pack ss)) at (stop_is ss h [] k (left ss []) ∙ stop-end (pack ss) k) in
    let z : length (pack ss) ≤ length (pack ss) = omega arith in
    rw (f, t, rows-good ss 0 0 0 (omega arith), le-ltb (length (pack ss)) (length (pack ss)) z)

last-full : (ss : List (List ℕ)) → length ss ≡ most_images → last_tag ss 0 ≡ image_tag
last-full [] e = absurd (omega arith)
last-full (s ∷ ss) e = refl

behind-full : (ss : List (List ℕ)) → length ss ≡ most_images → behind ss 0 0 ≡ most_images
behind-full [] e = absurd (omega arith)
behind-full (s ∷ ss) e = omega arith

-- a field behind as many images as there may be is at fault: by its tag, or by their number
bad-there : (s : List ℕ) (at : ℕ) → bad_field (field_at s at image_tag (ord_of image_tag most_images (byte s at))) ≡ true
unfolding bad_field field_at
bad-there s at = arm (eqb (byte s at) image_tag) refl
  where
    arm : (b : Bool) → eqb (byte s at) image_tag ≡ b → bad_field (field_at s at image_tag (ord_of image_tag most_images (byte s at))) ≡ true
    arm true e = rw (eqb-true (byte s at) image_tag e)
    arm false e = rw e

there : (s : List ℕ) (at j : ℕ) → at < length s
    → or_else (first bad_field (fields_from (suc j) s at image_tag most_images)) (cond (ltb (stop_from (suc j) s at) (length s)) (Some (stop_from (suc j) s at)) None) ≡ Some at
unfolding fields_from stop_from first field_at
there s at j l = arm (leb (field_end s at) (length s)) refl
  where
    arm : (b : Bool) → leb (field_end s at) (length s) ≡ b
        → or_else (first bad_field (fields_from (suc j) s at image_tag most_images)) (cond (ltb (stop_from (suc j) s at) (length s)) (Some (stop_from (suc j) s at)) None) ≡ Some at
    arm true e = rw (e, bad-there s at)
    arm false e = rw (e, lt-ltb at (length s) l)

-- 4,096 images, and a field behind them, cut short or not: refusal 11 at its offset
pub one-beyond : (ss : List (List ℕ)) (rest : List ℕ) → packable ss ≡ true → length ss ≡ most_images → 0 < length rest → first_fault (pack ss ++ rest) ≡ Some (length (pack ss))
unfolding first_fault
one-beyond ss rest h full more =
    let n = length-append (pack ss) rest in
    let l = pack-long ss in
    let j = length (pack ss ++ rest) - length ss - 1 in
    let e : length (pack ss ++ rest) ≡ length ss + suc j = omega arith in
    let inside : length (pack ss) < length (pack ss ++ rest) = omega arith in
    rw (fields-are ss h rest (suc j) e, stop_is ss h rest (suc j) e, first-behind bad_field (rows ss 0 0 0) (fields_from (suc j) (pack ss ++ rest) (length (pack ss)) (last_tag ss 0) (behind ss 0 0)) (rows-good ss 0 0 0 (omega arith)), last-full ss full, behind-full ss full)
    (there (pack ss ++ rest) (length (pack ss)) j inside)
