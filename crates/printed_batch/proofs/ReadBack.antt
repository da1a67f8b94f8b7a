-- Counts and an answer read back from an output are those that were written there, the answer that of a single call with the room that the image needs.
use Prim.Native.Nat.{ℕ, zero, suc, ◌+◌, ◌<◌, ◌≤◌}
use native.Mathlib.Omega.{arith}
use mathlib.Core.Path.{◌≡◌, refl, sym, ◌∙◌}
use mathlib.Core.Bool.{Bool, true, false, cond, ◌||◌}
use mathlib.Core.List.{List, [], ◌∷◌, ◌++◌}
use Rattle.std.specs.Prelude.{Option, Some, None, Ok, Err}
use lib.Dec.{leb, ltb}
use lib.ListN.{length, drop}
use lib.Seq.{get_or-drop}
use borrow.Author.Tests.{leb-true, le-ltb, ltb-true, ltb-false, ne_eqb}
use Rattle.base.proofs.Lists.{or_parts}
use Rattle.numbers.specs.Bytes.{byte_range, word_range, byte, le32, le_bytes}
use Rattle.numbers.proofs.Bytes.{le_same, le-append-right, le-bytes}
use Rattle.oce_model.specs.Format.{text_tag, shortest_image, longest_image}
use Rattle.oce_model.specs.Image.{field_end, field_at, ord_of, fields_from, fields, stop, of_tag, first}
use Rattle.oce_model.specs.declared.Field.{Field}
use Rattle.oce_model.specs.Refusals.{fault, refused_at, refusals_from, refusal}
use Rattle.oce_model.specs.declared.Refusal.{Refusal}
use Rattle.oce_diag.specs.declared.Counted.{Counted}
use Rattle.outcome.specs.Answer.{Answer, report_of, report_size, answer_for, answer}
use Rattle.batch.specs.Output.{summary_tag, summary_length, size_of, no_refusal, none_counted, summary_by, summary_of, summary_field, summary_bytes, image_output, refusal_place, offset_place, errors_place, warnings_place}
use Rattle.batch.proofs.Sizes.{output-long}
use Rattle.printed_batch.specs.PrintedBatch.{answer_alone}
use Rattle.printed_batch.specs.ReadBack.{counted_in, answer_in, SmallRefusal, Fitting, counted_of}

-- ---- the bytes of an answer's field

-- those in front of each number
before-offset : Refusal → List ℕ
before-offset r = summary_tag ∷ le_bytes 2 summary_length ++ le_bytes 1 r.number

before-errors : Refusal → List ℕ
before-errors r = before-offset r ++ le_bytes 4 r.offset

before-warnings : Refusal → Counted → List ℕ
before-warnings r c = before-errors r ++ le_bytes 4 c.errors

module _ (r : Refusal) (c : Counted) (b : List ℕ) where
  number-back : r.number < byte_range → byte (summary_field r c ++ b) refusal_place ≡ r.number
  unfolding summary_field le_bytes
  number-back h = omega arith

  offset-back : r.offset < word_range → le32 (summary_field r c ++ b) offset_place ≡ r.offset
  unfolding summary_field before-offset le_bytes
  offset-back h = le-append-right 4 (before-offset r) (le_bytes 4 r.offset ++ (le_bytes 4 c.errors ++ (le_bytes 4 c.warnings ++ b))) 0 ∙ le-bytes 4 r.offset _ h

  errors-back : c.errors < word_range → le32 (summary_field r c ++ b) errors_place ≡ c.errors
  unfolding summary_field before-errors before-offset le_bytes
  errors-back h = le-append-right 4 (before-errors r) (le_bytes 4 c.errors ++ (le_bytes 4 c.warnings ++ b)) 0 ∙ le-bytes 4 c.errors _ h

  warnings-back : c.warnings < word_range → le32 (summary_field r c ++ b) warnings_place ≡ c.warnings
  unfolding summary_field before-warnings before-errors before-offset le_bytes
  warnings-back h = le-append-right 4 (before-warnings r c) (le_bytes 4 c.warnings ++ b) 0 ∙ le-bytes 4 c.warnings b h

-- reading them gives the counts and the answer back
pub counted-back : (a : Answer) (b : List ℕ) → Fitting a → counted_in (summary_bytes a ++ b) 0 ≡ counted_of a
unfolding counted_in
counted-back (Err r) b f = rw (errors-back r none_counted b (omega arith), warnings-back r none_counted b (omega arith))
counted-back (Ok c) b f = rw (errors-back no_refusal c b f.0, warnings-back no_refusal c b f.1)

pub answer-back : (a : Answer) (b : List ℕ) → Fitting a → answer_in (summary_bytes a ++ b) 0 ≡ a
unfolding answer_in
answer-back (Err r) b f = rw (number-back r none_counted b f.few, ne_eqb r.number 0 f.positive, offset-back r none_counted b f.near)
answer-back (Ok c) b f = rw (number-back no_refusal c b (omega arith), counted-back (Ok c) b f)

-- an offset of an output, and the start of what is left from there on
module _ (b : List ℕ) (o : ℕ) where
  number-there : (k : ℕ) → le32 b (o + k) ≡ le32 (drop o b) k
  number-there k = le_same 4 b (drop o b) (o + k) k (λ i h. (let e : o + k + i ≡ o + (k + i) = omega arith in rw e (sym (get_or-drop o b (k + i) 0))))

  pub counted-there : counted_in b o ≡ counted_in (drop o b) 0
  unfolding counted_in
  counted-there = rw (number-there errors_place, number-there warnings_place)

  pub answer-there : answer_in b o ≡ answer_in (drop o b) 0
  unfolding answer_in
  answer-there = rw (sym (get_or-drop o b refusal_place 0), number-there offset_place, counted-there)

-- ---- refusals of an image: a number from 1 to 8, and an offset that an image can have

-- a field that is found begins in the image
first-within : (p : Field → Bool) (k : ℕ) (s : List ℕ) (at prev n x : ℕ) → first p (fields_from k s at prev n) ≡ Some x → x ≤ length s
unfolding first fields_from field_end field_at
first-within p zero s at prev n x h = let z : ◌≡◌ {A = ℕ} 0 1 = cc in absurd (omega arith)
first-within p (suc k) s at prev n x h =
    arm (leb (field_end s at) (length s)) refl h (first-within p k s (field_end s at) (byte s at) (suc (ord_of prev n (byte s at))) x)
  where
    o : ℕ
    o = ord_of prev n (byte s at)

    f : Field
    f = field_at s at prev o

    rest : List Field
    rest = fields_from k s (field_end s at) (byte s at) (suc o)

    test : (b : Bool) → field_end s at ≤ length s → cond b (Some at) (first p rest) ≡ Some x → (first p rest ≡ Some x → x ≤ length s) → x ≤ length s
    test true l h ih = let e : at ≡ x = cc in omega arith
    test false l h ih = ih h

    arm : (b : Bool) → leb (field_end s at) (length s) ≡ b → first p (cond b (f ∷ rest) []) ≡ Some x → (first p rest ≡ Some x → x ≤ length s) → x ≤ length s
    arm true e h ih = test (p f) (leb-true (field_end s at) (length s) e) h ih
    arm false e h ih = let z : ◌≡◌ {A = ℕ} 0 1 = cc in absurd (omega arith)

-- the refusals from k on
from-small : (j k : ℕ) (s : List ℕ) (r : Refusal) → 0 < k → j + k < 10 → length s ≤ longest_image → refusals_from j k s (fields s) ≡ Some r → SmallRefusal r
unfolding refusals_from fields
from-small zero k s r a b l h = let z : ◌≡◌ {A = ℕ} 0 1 = cc in absurd (omega arith)
from-small (suc j) k s r a b l h =
    arm (first (fault k (length (of_tag text_tag (fields s))) s) (fields s)) refl h (from-small j (suc k) s r (omega arith) (omega arith) l)
  where
    p : Field → Bool
    p = fault k (length (of_tag text_tag (fields s))) s

    arm : (o : Option ℕ) → first p (fields s) ≡ o → refused_at k o (refusals_from j (suc k) s (fields s)) ≡ Some r → (refusals_from j (suc k) s (fields s) ≡ Some r → SmallRefusal r) → SmallRefusal r
    arm None e h ih = ih h
    arm (Some x) e h ih =
        let n : k ≡ r.number = cc in
        let m : x ≡ r.offset = cc in
        let w : x ≤ length s = first-within p (length s) s 0 0 0 x e in
        record { positive = λ z. omega arith; few = omega arith; near = omega arith }

pub refusal-small : (s : List ℕ) (r : Refusal) → refusal s ≡ Some r → SmallRefusal r
unfolding refusal
refusal-small s r h = size (ltb (length s) shortest_image || ltb longest_image (length s)) refl h
  where
    rest : Option Refusal
    rest = refusals_from 6 3 s (fields s)

    past : (b : Bool) → ltb (stop s) (length s) ≡ b → length s ≤ longest_image → cond b (Some (record { number = 2; offset = stop s })) rest ≡ Some r → SmallRefusal r
    past true e l h =
        let n : 2 ≡ r.number = cc in
        let m : stop s ≡ r.offset = cc in
        let w : stop s < length s = ltb-true (stop s) (length s) e in
        record { positive = λ z. omega arith; few = omega arith; near = omega arith }
    past false e l h = from-small 6 3 s r (omega arith) (omega arith) l h

    size : (b : Bool) → (ltb (length s) shortest_image || ltb longest_image (length s)) ≡ b → cond b (Some (record { number = 1; offset = 0 })) (cond (ltb (stop s) (length s)) (Some (record { number = 2; offset = stop s })) rest) ≡ Some r → SmallRefusal r
    size true e h =
        let n : 1 ≡ r.number = cc in
        let m : 0 ≡ r.offset = cc in
        record { positive = λ z. omega arith; few = omega arith; near = omega arith }
    size false e h = past (ltb (stop s) (length s)) refl (ltb-false longest_image (length s) (or_parts (ltb (length s) shortest_image) (ltb longest_image (length s)) e).1) h

-- ---- what sums up an image

-- its numbers have room where its part of the output is shorter than a number of four bytes
module _ (t : List ℕ) where
  pub summary-fits : length (image_output t) < word_range → Fitting (summary_of t)
  unfolding summary_of
  summary-fits l = arm (refusal t) refl (rw (output-long t) at l)
    where
      arm : (o : Option Refusal) → refusal t ≡ o → size_of (summary_by t o) < word_range → Fitting (summary_by t o)
      arm None e l = (omega arith, omega arith)
      arm (Some r) e l = refusal-small t r e

  -- it is the answer of a single call with the room that the image needs
  pub answer-single : summary_of t ≡ answer_alone t
  unfolding summary_of answer
  answer-single = arm (refusal t)
    where
      arm : (o : Option Refusal) → summary_by t o ≡ answer_for t (length t) (report_size (report_of t)) o
      arm None = rw (le-ltb (length t) (length t) (omega arith), le-ltb (report_size (report_of t)) (report_size (report_of t)) (omega arith))
      arm (Some r) = refl
