-- Refusal 1 for every image that is too long, and refusal 5 for each tag from 2 to 8: images that are too long to compute with. FORMAT 6.
use Prim.Native.Nat.{ℕ, zero, suc, ◌+◌, ◌*◌, ◌≤◌, ◌<◌}
use native.Mathlib.Nat.{add-zero, zero-add, mul-zero, mul-suc}
use native.Mathlib.Omega.{arith}
use mathlib.Core.Path.{◌≡◌, refl, sym, ap, ◌∙◌}
use mathlib.Core.Bool.{false}
use mathlib.Core.List.{List, [], ◌∷◌, ◌++◌, append_assoc}
use Rattle.std.specs.Prelude.{Some, None}
use lib.ListN.{length, length-append, length-replicate, replicate}
use lib.Dec.{eqb, ltb}
use borrow.Author.Tests.{le-leb, lt-leb, lt-ltb, le-ltb, eq-eqb}
use Rattle.numbers.specs.Bytes.{short_range, le_at, le_bytes}
use Rattle.numbers.proofs.Bytes.{le-append-right}
use Rattle.oce_model.specs.Format.{leading_bytes, head_tag, text_tag, block_tag, connector_tag, connection_tag, external_input_tag, boundary_input_tag, boundary_output_tag, highest_tag, most, head_length, block_length, connector_length, connection_length, external_input_length, boundary_input_length, boundary_output_length, fixed_length, shortest_image, longest_image, block_inputs_at, block_outputs_at}
use Rattle.oce_model.specs.Image.{fields, fields_from, first, of_tag, ord_of, stop, stop_from}
use Rattle.oce_model.specs.declared.Field.{Field}
use Rattle.oce_model.specs.Refusals.{bad_block_length, bad_length, bad_tag, fault, refusal, refusals_from, tag_is_bad, too_many}
use Rattle.oce_model.specs.Build.{field, head_field, head_field_of}
use Rattle.oce_model.proofs.Fields.{first-here, first-later}
use Rattle.oce_model.proofs.Behind.{IsField, row, long-at, fields-step, stop_step, fields-end, stop-end, built-is}
use Rattle.refused.specs.Refused.{repeated, fewest, crowded, beyond}

-- ---- refusal 1

pub too_long : (s : List ℕ) → longest_image < length s → refusal s ≡ Some (record { number = 1; offset = 0 })
unfolding refusal
too_long s h =
    let short : ltb (length s) shortest_image ≡ false = le-ltb (length s) shortest_image (omega arith) in
    rw (short, lt-ltb longest_image (length s) h)

-- ---- n fields alike behind others

-- n of a tag and a length, from an offset on, the first of them behind a field with the tag prev
unfoldable rows : ℕ → ℕ → ℕ → ℕ → ℕ → ℕ → List Field
rows t len zero at prev o = []
rows t len (suc n) at prev o = row t len at prev o ∷ rows t len n (at + leading_bytes + len) t (suc o)

module _ {t len : ℕ} {r : List ℕ} (is : IsField t len r) where
  fields-rows : (n k : ℕ) (pre : List ℕ) (prev o : ℕ) → n ≤ k → fields_from k (pre ++ repeated n r) (length pre) prev o ≡ rows t len n (length pre) prev (ord_of prev o t)
  unfolding repeated rows
  fields-rows zero k pre prev o h = fields-end pre k prev o
  fields-rows (suc n) zero pre prev o h = absurd (omega arith)
  fields-rows (suc n) (suc k) pre prev o h =
      let p = ord_of prev o t in
      let again : ord_of t (suc p) t ≡ suc p = rw (eq-eqb t t refl) in
      fields-step is pre (repeated n r) k prev o
      ∙ ap (λ fs. row t len (length pre) prev p ∷ fs) (fields-rows n k (pre ++ r) t (suc p) (omega arith) ∙ rw (again, long-at is pre []))

  stop-rows : (n k : ℕ) (pre : List ℕ) → n ≤ k → stop_from k (pre ++ repeated n r) (length pre) ≡ length (pre ++ repeated n r)
  unfolding repeated
  stop-rows zero k pre h = stop-end pre k
  stop-rows (suc n) zero pre h = absurd (omega arith)
  stop-rows (suc n) (suc k) pre h = stop_step is pre (repeated n r) k ∙ stop-rows n k (pre ++ r) (omega arith) ∙ rw (append_assoc pre r (repeated n r))

  repeated-length : (n : ℕ) → length (repeated n r) ≡ (leading_bytes + len) * n
  unfolding repeated
  repeated-length zero = sym (mul-zero (leading_bytes + len))
  repeated-length (suc n) = length-append r (repeated n r) ∙ (let e = is.long in let i = repeated-length n in rw (e, i, mul-suc (leading_bytes + len) n) (omega arith))

  -- no bad tag: they don't fall
  tags-good : tag_is_bad t t ≡ false → (n at o : ℕ) → first bad_tag (rows t len n at t o) ≡ None
  unfolding rows first bad_tag
  tags-good h zero at o = refl
  tags-good h (suc n) at o = rw h (tags-good h n (at + leading_bytes + len) (suc o))

  -- no bad length
  module _ (good : (pre rest : List ℕ) (prev o : ℕ) → bad_length (pre ++ (r ++ rest)) (row t len (length pre) prev o) ≡ false) where
    lengths-good : (n : ℕ) (pre s : List ℕ) (prev o : ℕ) → s ≡ pre ++ repeated n r → first (bad_length s) (rows t len n (length pre) prev o) ≡ None
    unfolding rows repeated first
    lengths-good zero pre s prev o e = refl
    lengths-good (suc n) pre s prev o e =
        first-later (bad_length s) (row t len (length pre) prev o) (rows t len n (length pre + leading_bytes + len) t (suc o)) (rw e (good pre (repeated n r) prev o))
        ∙ rw (long-at is pre []) at (lengths-good n (pre ++ r) s t (suc o) (rw (append_assoc pre r (repeated n r)) e))

  -- the first beyond the most
  first-beyond : (d at prev o : ℕ) → o + d ≡ most t → first too_many (rows t len (suc d) at prev o) ≡ Some (at + (leading_bytes + len) * d)
  unfolding rows too_many
  first-beyond zero at prev o h =
      let l : most t ≤ o = omega arith in
      first-here too_many (row t len at prev o) [] (le-leb _ _ l) ∙ rw (mul-zero (leading_bytes + len), add-zero at)
  first-beyond (suc d) at prev o h =
      let l : o < most t = omega arith in
      let e : at + leading_bytes + len + (leading_bytes + len) * d ≡ at + (leading_bytes + len) * suc d = rw (mul-suc (leading_bytes + len) d) (omega arith) in
      first-later too_many (row t len at prev o) (rows t len (suc d) (at + leading_bytes + len) t (suc o)) (lt-leb _ _ l) ∙ first-beyond d (at + leading_bytes + len) t (suc o) (omega arith) ∙ rw e

-- ---- a head, and one more of them than there may be

head-is : IsField head_tag head_length head_field
unfolding head_field head_field_of field le_bytes le_at
head-is = record { tag = λ rest. refl; size = λ rest. refl; long = refl }

module _ {t len : ℕ} {r : List ℕ} (is : IsField t len r) (good : (pre rest : List ℕ) (prev o : ℕ) → bad_length (pre ++ (r ++ rest)) (row t len (length pre) prev o) ≡ false)
    (behind_head : tag_is_bad t head_tag ≡ false) (behind_own : tag_is_bad t t ≡ false) (other : eqb head_tag t ≡ false)
    (within : shortest_image + (leading_bytes + len) * suc (most t) ≤ longest_image) where
  abbrev many : List ℕ
  many = repeated (suc (most t)) r

  abbrev all : List ℕ
  all = head_field ++ many

  all-length : length all ≡ shortest_image + (leading_bytes + len) * suc (most t)
  all-length = length-append head_field many ∙ (let e = head-is.long in let i = repeated-length is (suc (most t)) in rw (e, i) (omega arith))

  abbrev those : List Field
  those = row head_tag head_length 0 0 0 ∷ rows t len (suc (most t)) (length head_field) head_tag 0

  enough : (k : ℕ) → length all ≤ suc k → suc (most t) ≤ k
  enough k h = omega (arith, all-length, mul-suc (leading_bytes + len) (most t))

  fields-are : fields all ≡ those
  unfolding fields
  fields-are = go (length all) (omega arith)
    where
      go : (n : ℕ) → length all ≤ n → fields_from n all 0 0 0 ≡ those
      go zero h = absurd (omega (arith, all-length))
      go (suc k) h =
          fields-step head-is [] many k 0 0
          ∙ ap (λ fs. row head_tag head_length 0 0 0 ∷ fs) (fields-rows is (suc (most t)) k head_field head_tag 1 (enough k h) ∙ rw other)

  stops : stop all ≡ length all
  unfolding stop
  stops = go (length all) (omega arith)
    where
      go : (n : ℕ) → length all ≤ n → stop_from n all 0 ≡ length all
      go zero h = absurd (omega (arith, all-length))
      go (suc k) h = stop_step head-is [] many k ∙ stop-rows is (suc (most t)) k head_field (enough k h)

  module _ (n : ℕ) where
    no-3 : first (fault 3 n all) those ≡ None
    unfolding fault first rows bad_tag tag_is_bad
    no-3 = rw behind_head (tags-good is behind_own (most t) (length head_field + leading_bytes + len) 1)

    no-4 : first (fault 4 n all) those ≡ None
    unfolding fault bad_length fixed_length
    no-4 = first-later (bad_length all) (row head_tag head_length 0 0 0) _ refl ∙ lengths-good is good (suc (most t)) head_field all head_tag 0 refl

    is-5 : first (fault 5 n all) those ≡ Some (shortest_image + (leading_bytes + len) * most t)
    unfolding fault too_many most
    is-5 = first-later too_many (row head_tag head_length 0 0 0) _ refl ∙ first-beyond is (most t) (length head_field) head_tag 0 (zero-add (most t)) ∙ rw head-is.long

  pub one-too-many : refusal all ≡ Some (record { number = 5; offset = shortest_image + (leading_bytes + len) * most t })
  unfolding refusal refusals_from
  one-too-many =
      let n = length (of_tag text_tag those) in
      let long : ltb (length all) shortest_image ≡ false = le-ltb (length all) shortest_image (omega (arith, all-length)) in
      let short : ltb longest_image (length all) ≡ false = le-ltb longest_image (length all) (omega (arith, all-length)) in
      let ends : ltb (length all) (length all) ≡ false = le-ltb (length all) (length all) (omega arith) in
      rw (long, short, stops, ends, fields-are, no-3 n, no-4 n, is-5 n)

-- ---- each tag

abbrev zeros : ℕ → ℕ → List ℕ
zeros t len = field t (replicate len 0)

zeros-is : (t len : ℕ) → len < short_range → IsField t len (zeros t len)
zeros-is t len h = let n : length {A = ℕ} (replicate len 0) ≡ len = length-replicate len 0 in rw n at (built-is t (replicate len 0) (rw n h))

-- a block's port counts are among the zeros
block-good : (pre rest : List ℕ) (prev o : ℕ)
    → bad_length (pre ++ (zeros block_tag block_length ++ rest)) (row block_tag block_length (length pre) prev o) ≡ false
unfolding bad_length bad_block_length le_at field le_bytes
block-good pre rest prev o = rw (le-append-right 2 pre (zeros block_tag block_length ++ rest) block_inputs_at, le-append-right 2 pre (zeros block_tag block_length ++ rest) block_outputs_at) ports
  where
    ports : bad_length (zeros block_tag block_length ++ rest) (row block_tag block_length 0 prev o) ≡ false
    ports = refl

-- refusal 5, at the first record beyond
pub too-many : (t : ℕ) → text_tag ≤ t → t ≤ highest_tag → refusal (crowded t) ≡ Some (record { number = 5; offset = beyond t })
unfolding crowded beyond fewest most fixed_length bad_length tag_is_bad
too-many zero l h = absurd (omega arith)
too-many (suc zero) l h = absurd (omega arith)
too-many (suc (suc zero)) l h = one-too-many (zeros-is text_tag 0 (omega arith)) (λ pre rest prev o. refl) refl refl refl (omega arith)
too-many (suc (suc (suc zero))) l h = one-too-many (zeros-is block_tag block_length (omega arith)) block-good refl refl refl (omega arith)
too-many (suc (suc (suc (suc zero)))) l h = one-too-many (zeros-is connector_tag connector_length (omega arith)) (λ pre rest prev o. refl) refl refl refl (omega arith)
too-many (suc (suc (suc (suc (suc zero))))) l h = one-too-many (zeros-is connection_tag connection_length (omega arith)) (λ pre rest prev o. refl) refl refl refl (omega arith)
too-many (suc (suc (suc (suc (suc (suc zero)))))) l h = one-too-many (zeros-is external_input_tag external_input_length (omega arith)) (λ pre rest prev o. refl) refl refl refl (omega arith)
too-many (suc (suc (suc (suc (suc (suc (suc zero))))))) l h = one-too-many (zeros-is boundary_input_tag boundary_input_length (omega arith)) (λ pre rest prev o. refl) refl refl refl (omega arith)
too-many (suc (suc (suc (suc (suc (suc (suc (suc zero)))))))) l h = one-too-many (zeros-is boundary_output_tag boundary_output_length (omega arith)) (λ pre rest prev o. refl) refl refl refl (omega arith)
too-many (suc (suc (suc (suc (suc (suc (suc (suc (suc t))))))))) l h = absurd (omega arith)
