-- What the tests of a field find together is that the field is at fault: one law for each tag.
use Prim.Native.Nat.{ℕ, ◌+◌, ◌-◌, ◌*◌, ◌<◌, ◌≤◌}
use native.Mathlib.Omega.{arith}
use mathlib.Core.Logic.{◌≢◌}
use mathlib.Core.Path.{◌≡◌, refl, sym}
use mathlib.Core.Bool.{Bool, true, false, not, ◌||◌}
use mathlib.Core.List.{List}
use lib.Dec.{eqb, ltb, leb}
use lib.ListN.{take, drop}
use borrow.Author.Tests.{eqb-true, ne_eqb, not-false}
use Rattle.base.specs.Lists.{any}
use Rattle.numbers.specs.Bytes.{le16}
use Rattle.oce_model.specs.Format.{leading_bytes, head_tag, text_tag, block_tag, connector_tag, boundary_input_tag, boundary_output_tag, attrs_length, connector_size, boundary_input_attrs, boundary_output_attrs, block_length, port_length, most_ports, fixed_length}
use Rattle.oce_model.specs.Attributes.{attrs_at}
use Rattle.oce_model.specs.Model.{block_at, connector_at, boundary_input_at, boundary_output_at, input_count_at, output_count_at}
use Rattle.oce_model.specs.Refusals.{attrs_offset, bad_attrs, bad_block_length, bad_connector, bad_contents, bad_head, bad_length, bad_or_none, bad_reference, bad_text, bad_text_numbers, too_many}
use Rattle.oce_model.specs.Texts.{is_text_byte, text_of}
use Rattle.oce_model.specs.declared.Field.{Field}
use Rattle.image_sieve.specs.Faulty.{at_fault, attrs_faulty, connector_faulty, boundary_faulty}

-- ---- contents, by tag

-- refusals 6 to 8
abbrev pub contents : ℕ → List ℕ → Field → Bool
contents n s f = bad_contents s f || bad_text s f || bad_reference n s f

alone : (b : Bool) → b ≡ (b || false || false || false || false)
alone true = refl
alone false = refl

text-order : (b : Bool) → b ≡ (b || false)
text-order true = refl
text-order false = refl

connector-order : (c b a t : Bool) → (c || b || (a || t)) ≡ ((c || a) || false || (b || false || false || t))
connector-order true b a t = refl
connector-order false true true t = refl
connector-order false true false t = refl
connector-order false false true t = refl
connector-order false false false t = refl

input-order : (b a t : Bool) → (b || (a || t)) ≡ (a || false || (b || false || t))
input-order true true t = refl
input-order true false t = refl
input-order false true t = refl
input-order false false t = refl

output-order : (b a t : Bool) → (b || (a || t)) ≡ (a || false || (b || t))
output-order true true t = refl
output-order true false t = refl
output-order false true t = refl
output-order false false t = refl

module _ (n : ℕ) (s : List ℕ) (f : Field) {r : Bool} where
  pub head-are : f.tag ≡ head_tag → r ≡ bad_head s f.at → r ≡ contents n s f
  unfolding bad_contents bad_text bad_reference attrs_offset
  head-are e p = rw (e, p) (alone (bad_head s f.at))

  pub text-are : f.tag ≡ text_tag → r ≡ any (λ b. not (is_text_byte b)) (take (f.at + leading_bytes + f.len - (f.at + leading_bytes)) (drop (f.at + leading_bytes) s)) → r ≡ contents n s f
  unfolding bad_contents bad_text bad_reference attrs_offset text_of
  text-are e p =
      let z : f.at + leading_bytes + f.len - (f.at + leading_bytes) ≡ f.len = omega arith in
      rw (e, p, z) (text-order (any (λ b. not (is_text_byte b)) (text_of s f)))

  pub connector-are : f.tag ≡ connector_tag → r ≡ connector_faulty n (connector_at s f.at) → r ≡ contents n s f
  unfolding bad_contents bad_text bad_reference attrs_offset connector_faulty attrs_faulty connector_at
  connector-are e p =
      let c = connector_at s f.at in
      rw (e, p) (connector-order (bad_connector c) (bad_or_none n c.iri) (bad_attrs c.attrs) (bad_text_numbers n c.attrs))

  pub input-are : f.tag ≡ boundary_input_tag → r ≡ boundary_faulty n (le16 s (f.at + leading_bytes)) (attrs_at s (f.at + boundary_input_attrs)) → r ≡ contents n s f
  unfolding bad_contents bad_text bad_reference attrs_offset boundary_faulty attrs_faulty boundary_input_at
  input-are e p =
      let a = attrs_at s (f.at + boundary_input_attrs) in
      rw (e, p) (input-order (leb n (le16 s (f.at + leading_bytes))) (bad_attrs a) (bad_text_numbers n a))

  pub output-are : f.tag ≡ boundary_output_tag → r ≡ boundary_faulty n (le16 s (f.at + leading_bytes)) (attrs_at s (f.at + boundary_output_attrs)) → r ≡ contents n s f
  unfolding bad_contents bad_text bad_reference attrs_offset boundary_faulty attrs_faulty boundary_output_at
  output-are e p =
      let a = attrs_at s (f.at + boundary_output_attrs) in
      rw (e, p) (output-order (leb n (le16 s (f.at + leading_bytes))) (bad_attrs a) (bad_text_numbers n a))

module _ (n : ℕ) (s : List ℕ) (f : Field) where
  pub others-are : f.tag ≢ head_tag → f.tag ≢ text_tag → f.tag ≢ block_tag → f.tag ≢ connector_tag → f.tag ≢ boundary_input_tag → f.tag ≢ boundary_output_tag → false ≡ contents n s f
  unfolding bad_contents bad_text bad_reference attrs_offset
  others-are a b c d e g =
      rw (ne_eqb f.tag head_tag a, ne_eqb f.tag text_tag b, ne_eqb f.tag block_tag c, ne_eqb f.tag connector_tag d, ne_eqb f.tag boundary_input_tag e, ne_eqb f.tag boundary_output_tag g) refl

-- ---- a record of a fixed size that has its length holds its parts

module _ (s : List ℕ) (f : Field) (L : bad_length s f ≡ false) where
  fixed : (t : ℕ) → f.tag ≡ t → eqb t text_tag ≡ false → eqb t block_tag ≡ false → f.len ≡ fixed_length t
  unfolding bad_length
  fixed t e a b = eqb-true f.len (fixed_length t) (not-false (eqb f.len (fixed_length t)) (rw (e, a, b) at L))

  pub connector-inside : f.tag ≡ connector_tag → connector_size ≤ leading_bytes + f.len
  unfolding fixed_length
  connector-inside e = omega (arith, fixed connector_tag e refl refl)

  pub input-inside : f.tag ≡ boundary_input_tag → boundary_input_attrs + attrs_length ≤ leading_bytes + f.len
  unfolding fixed_length
  input-inside e = omega (arith, fixed boundary_input_tag e refl refl)

  pub output-inside : f.tag ≡ boundary_output_tag → boundary_output_attrs + attrs_length ≤ leading_bytes + f.len
  unfolding fixed_length
  output-inside e = omega (arith, fixed boundary_output_tag e refl refl)

-- ---- refusals 4 and 5 in front

one-order : (o c t r : Bool) → (o || (c || t || r)) ≡ (o || c || t || r)
one-order true c t r = refl
one-order false c t r = refl

module _ (n : ℕ) (s : List ℕ) (f : Field) {l : Bool} (L : l ≡ bad_length s f) where
  -- a length at fault is enough
  pub long : l ≡ true → l ≡ at_fault n s f
  unfolding at_fault
  long h = rw (← L, h) refl

  pub all-are : {o b : Bool} → l ≡ false → o ≡ too_many f → b ≡ contents n s f → (o || b) ≡ at_fault n s f
  unfolding at_fault
  all-are {o} {b} h O B = rw (← L, h, O, B) (one-order (too_many f) (bad_contents s f) (bad_text s f) (bad_reference n s f))

-- ---- blocks

block-order : (b o i : Bool) → (b || o || i) ≡ (b || o || false || false || (i || false || false || false || false))
block-order true o i = refl
block-order false true i = refl
block-order false false true = refl
block-order false false false = refl

module _ (n : ℕ) (s : List ℕ) (f : Field) (e : f.tag ≡ block_tag) where
  pub block-short : f.len < block_length → true ≡ at_fault n s f
  unfolding at_fault bad_length bad_block_length
  block-short h = sym (rw (e, ne_eqb f.len (block_length + port_length * (input_count_at s f.at + output_count_at s f.at)) (λ q. absurd (omega arith))))

  pub block-are : (i j x : ℕ) (p o b : Bool) → p ≡ (not (eqb f.len (block_length + port_length * (i + j))) || ltb most_ports i || ltb most_ports j) → o ≡ too_many f → b ≡ bad_or_none n x
      → i ≡ input_count_at s f.at → j ≡ output_count_at s f.at → x ≡ le16 s (f.at + 7) → (p || o || b) ≡ at_fault n s f
  unfolding at_fault bad_length bad_block_length bad_contents bad_text bad_reference attrs_offset block_at
  block-are i j x p o b P O B I K X = rw (P, I, K, ← O, B, X, e) (block-order (bad_block_length s f) o (bad_or_none n (le16 s (f.at + 7))))
