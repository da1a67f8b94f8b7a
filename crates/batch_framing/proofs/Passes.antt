-- Laws of a pass over the images of a batch in which no field is at fault: how it starts, steps and ends, and which image stands in a field.
use Prim.Native.Nat.{ℕ, zero, suc, ◌+◌, ◌<◌, ◌≤◌}
use native.Mathlib.Nat.{add-zero}
use native.Mathlib.Numerals.{add-one}
use native.Mathlib.Omega.{arith}
use mathlib.Core.Logic.{◌⊎◌, inl, inr}
use mathlib.Core.Path.{◌≡◌, refl, sym, subst, ap, ◌∙◌}
use mathlib.Core.Bool.{Bool, true, false, cond, not}
use mathlib.Core.List.{List, [], ◌∷◌}
use Rattle.std.specs.Prelude.{None}
use lib.Dec.{eqb, leb}
use lib.ListN.{length, get_or, drop, length-map}
use lib.Seq.{drop-drop, get_or-drop}
use borrow.Author.Tests.{eqb-true, eq-eqb, leb-false, not-false}
use Rattle.base.proofs.Lists.{or_parts}
use Rattle.base.proofs.Members.{get_or-map, get_or-mem}
use Rattle.numbers.specs.Bytes.{byte}
use Rattle.oce_model.specs.Image.{field_at, field_end, fields, fields_from, first, ord_of}
use Rattle.oce_model.specs.declared.Field.{Field}
use Rattle.oce_model.proofs.Fields.{NonePass, none_of, first-later}
use Rattle.oce_model.proofs.Places.{field-end}
use Rattle.image_framing.specs.Walk.{end_of}
use Rattle.batch.specs.Fields.{image_tag, most_images, bad_field, image_in, images}
use Rattle.batch_framing.specs.Clean.{Clean, Counted, Ahead}

-- ---- a field that isn't bad

good-tag : (f : Field) → bad_field f ≡ false → f.tag ≡ image_tag
unfolding bad_field
good-tag f h = eqb-true f.tag image_tag (not-false (eqb f.tag image_tag) (or_parts (not (eqb f.tag image_tag)) (leb most_images f.ord) h).0)

good-few : (f : Field) → bad_field f ≡ false → f.ord < most_images
unfolding bad_field
good-few f h = leb-false most_images f.ord (or_parts (not (eqb f.tag image_tag)) (leb most_images f.ord) h).1

good-first : (f : Field) (l : List Field) → first bad_field (f ∷ l) ≡ None → bad_field f ≡ false
good-first f l h = arm (none_of bad_field (f ∷ l) h)
  where
    arm : NonePass bad_field (f ∷ l) → bad_field f ≡ false
    arm (NonePass.and e n) = e

-- where no field is bad, all are images, so one more stands before each
counted-from : (k : ℕ) (s : List ℕ) (at prev n : ℕ) → (prev ≡ image_tag) ⊎ (n ≡ 0) → first bad_field (fields_from k s at prev n) ≡ None → Counted n (fields_from k s at prev n)
unfolding fields_from Counted first field_at
counted-from zero s at prev n p h = tt
counted-from (suc k) s at prev n p h = arm (leb (field_end s at) (length s)) h (counted-from k s (field_end s at) t (suc o))
  where
    t : ℕ
    t = byte s at

    o : ℕ
    o = ord_of prev n t

    rest : List Field
    rest = fields_from k s (field_end s at) t (suc o)

    same : t ≡ image_tag → (prev ≡ image_tag) ⊎ (n ≡ 0) → o ≡ n
    same e (inl q) = rw (eq-eqb prev t (q ∙ sym e)) refl
    same e (inr q) = zeros (eqb prev t)
      where
        zeros : (b : Bool) → cond b n 0 ≡ n
        zeros true = refl
        zeros false = sym q

    arm : (b : Bool) → first bad_field (cond b (field_at s at prev o ∷ rest) []) ≡ None → ((t ≡ image_tag) ⊎ (suc o ≡ 0) → first bad_field rest ≡ None → Counted (suc o) rest) → Counted n (cond b (field_at s at prev o ∷ rest) [])
    arm true q ih =
        let f = field_at s at prev o in
        let g = good-first f rest q in
        let e : t ≡ image_tag = good-tag f g in
        let m : o ≡ n = same e p in
        (m, subst (λ x. Counted x rest) (sym (add-one o) ∙ ap (λ x. x + 1) m) (ih (inl e) (sym (first-later bad_field f rest g) ∙ q)))
    arm false q ih = tt

-- ---- what is ahead

pub ahead-start : {s : List ℕ} {rest : List Field} → Clean s → rest ≡ fields s → Ahead s 0 rest
unfolding fields
ahead-start {s} v e = rw e (record { good = v.good; here = refl; all = omega arith; counted = counted-from (length s) s 0 0 0 (inr refl) v.good; few = omega arith })

module _ {s : List ℕ} {i : ℕ} {f : Field} {rest later : List Field} (v : Ahead s i rest) (e : rest ≡ f ∷ later) where
  fine : bad_field f ≡ false
  fine = good-first f later (ap (first bad_field) (sym e) ∙ v.good)

  some_left : i < length (fields s)
  some_left = let n : length rest ≡ length later + 1 = ap length e ∙ (omega arith) in omega (arith, v.all)

  here : f ≡ get_or (fields s) i f
  here = ap (λ (r : List Field). get_or r 0 f) (sym e ∙ v.here) ∙ get_or-drop i (fields s) 0 f ∙ ap (λ n. get_or (fields s) n f) (add-zero i)

  ahead-fits : end_of f ≤ length s
  ahead-fits = field-end s f (rw here (get_or-mem (fields s) i f some_left))

  pub ahead-at : f.at ≤ length s
  ahead-at = let fits = ahead-fits in omega arith

  pub ahead-few : f.ord < most_images
  ahead-few = good-few f fine

  pub ahead-ord : f.ord ≡ i
  unfolding Counted
  ahead-ord = (rw e at v.counted).0

  pub ahead-next : Ahead s (i + 1) later
  unfolding Counted
  ahead-next =
      let n : length rest ≡ length later + 1 = ap length e ∙ (omega arith) in
      let o = ahead-ord in
      let few = ahead-few in
      let all = v.all in
      record {
        good = sym (first-later bad_field f later fine) ∙ ap (first bad_field) (sym e) ∙ v.good;
        here = ap (drop 1) (sym e ∙ v.here) ∙ drop-drop 1 i (fields s);
        all = omega arith;
        counted = (rw e at v.counted).1;
        few = omega arith;
      }

  pub ahead-more : i < length (images s)
  unfolding images
  ahead-more = let l = some_left in rw (length-map (fields s) (image_in s)) l

  -- image i is the one in f
  pub ahead-image : get_or (images s) i [] ≡ image_in s f
  unfolding images
  ahead-image = get_or-map (image_in s) (fields s) i f [] some_left ∙ ap (image_in s) (sym here)

-- at the end none is left
pub ahead-all : {s : List ℕ} {i : ℕ} {rest : List Field} → Ahead s i rest → rest ≡ [] → i ≡ length (images s)
unfolding images
ahead-all {s} {rest = rest} v e =
    let n : length rest ≡ 0 = ap length e in
    let all = v.all in
    let m = length-map (fields s) (image_in s) in
    omega arith
