-- What it says of an image that it isn't turned away, how long its fields are, and the records of its model as fields.
use Prim.Native.Nat.{ℕ, zero, suc, ◌+◌, ◌*◌, ◌≤◌, ◌<◌}
use native.Mathlib.Omega.{arith}
use mathlib.Core.Logic.{◌≢◌}
use mathlib.Core.Path.{◌≡◌, refl, sym, ap, ◌∙◌}
use mathlib.Core.Bool.{Bool, true, false, cond, not, ◌||◌}
use mathlib.Core.List.{List, Memᴰ}
use Rattle.std.specs.Prelude.{Option, Some, None}
use Rattle.base.proofs.Options.{some-ne-none}
use lib.ListN.{length, length-map}
use lib.Dec.{leb, eqb, ltb}
use borrow.Author.Tests.{ne_eqb, not-false, eqb-true, leb-true, ltb-false}
use Rattle.numbers.specs.Bytes.{byte}
use Rattle.oce_model.specs.Format.{block_tag, boundary_input_tag, boundary_output_tag, connection_tag, connector_tag, external_input_tag, head_tag, highest_tag, text_tag, fixed_length, most_ports, shortest_image, longest_image}
use Rattle.oce_model.specs.Image.{field_at, field_end, fields, of_tag, stop, stop_from}
use Rattle.oce_model.specs.Model.{input_count_at, output_count_at, boundary_input, boundary_input_at, boundary_input_count, boundary_output, boundary_output_at, boundary_output_count, connection, connection_at, connection_count, connector, connector_at, connector_count, model_of, no_boundary_input, no_boundary_output, no_connection, no_connector}
use Rattle.oce_model.specs.Refusals.{bad_block_length, bad_contents, bad_length, bad_reference, bad_tag, bad_text, fault, refusal, refusals_from, refused_at, tag_is_bad, too_many}
use Rattle.oce_model.specs.declared.Refusal.{Refusal}
use Rattle.oce_model.specs.declared.Field.{Field}
use Rattle.base.proofs.Lists.{or_parts}
use Rattle.base.proofs.Members.{get_or-map}
use Rattle.oce_model.proofs.Fields.{NonePass, none-mem, none_of, nth}

-- ---- an image that is not turned away: what each refusal then says

pub record Accepted (s : List ℕ) : Type 0 where
  pub long : shortest_image ≤ length s
  pub short : length s ≤ longest_image
  pub ends : stop s ≡ length s
  pub tags : NonePass bad_tag (fields s)
  pub lengths : NonePass (bad_length s) (fields s)
  pub counts : NonePass too_many (fields s)
  pub contents : NonePass (bad_contents s) (fields s)
  pub texts : NonePass (bad_text s) (fields s)
  pub numbers : NonePass (bad_reference (length (of_tag text_tag (fields s))) s) (fields s)

stop-from : (k : ℕ) (s : List ℕ) (at : ℕ) → at ≤ length s → stop_from k s at ≤ length s
unfolding stop_from
stop-from zero s at l = l
stop-from (suc k) s at l = arm (leb (field_end s at) (length s)) refl (stop-from k s (field_end s at))
  where
    arm : (b : Bool) → leb (field_end s at) (length s) ≡ b → (field_end s at ≤ length s → stop_from k s (field_end s at) ≤ length s) → cond b (stop_from k s (field_end s at)) at ≤ length s
    arm true e ih = ih (leb-true _ _ e)
    arm false e ih = l

-- where the fields don't stop before the image's end, they stop there
pub stops : (s : List ℕ) → ltb (stop s) (length s) ≡ false → stop s ≡ length s
unfolding stop
stops s h =
    let most : stop_from (length s) s 0 ≤ length s = stop-from (length s) s 0 (omega arith) in
    let least : length s ≤ stop_from (length s) s 0 = ltb-false _ (length s) h in
    omega arith

passed : (k : ℕ) (o : Option ℕ) (r : Option Refusal) → refused_at k o r ≡ None → (o ≡ None) × (r ≡ None)
passed k None r h = (refl, h)
passed k (Some at) r h = absurd (some-ne-none _ h)

not-refused : (b : Bool) (x : Refusal) (r : Option Refusal) → cond b (Some x) r ≡ None → (b ≡ false) × (r ≡ None)
not-refused true x r h = absurd (some-ne-none x h)
not-refused false x r h = (refl, h)

pub accepted : (s : List ℕ) → refusal s ≡ None → Accepted s
unfolding refusal refusals_from fault
accepted s h =
    let p = not-refused (ltb (length s) shortest_image || ltb longest_image (length s)) _ _ h in
    let q = not-refused (ltb (stop s) (length s)) _ _ p.1 in
    let r3 = passed 3 _ _ q.1 in
    let r4 = passed 4 _ _ r3.1 in
    let r5 = passed 5 _ _ r4.1 in
    let r6 = passed 6 _ _ r5.1 in
    let r7 = passed 7 _ _ r6.1 in
    let r8 = passed 8 _ _ r7.1 in
    record {
      long = ltb-false (length s) shortest_image (or_parts _ _ p.0).0;
      short = ltb-false longest_image (length s) (or_parts (ltb (length s) shortest_image) _ p.0).1;
      ends = stops s q.0;
      tags = none_of bad_tag (fields s) r3.0;
      lengths = none_of (bad_length s) (fields s) r4.0;
      counts = none_of too_many (fields s) r5.0;
      contents = none_of (bad_contents s) (fields s) r6.0;
      texts = none_of (bad_text s) (fields s) r7.0;
      numbers = none_of (bad_reference (length (of_tag text_tag (fields s))) s) (fields s) r8.0;
    }

-- ---- records by number

pub connectors-length : (s : List ℕ) → connector_count (model_of s) ≡ length (of_tag connector_tag (fields s))
unfolding model_of
connectors-length s = length-map (of_tag connector_tag (fields s)) (λ f. connector_at s f.at)

pub outputs-length : (s : List ℕ) → boundary_output_count (model_of s) ≡ length (of_tag boundary_output_tag (fields s))
unfolding model_of
outputs-length s = length-map (of_tag boundary_output_tag (fields s)) (λ f. boundary_output_at s f.at)

pub connector-is : (s : List ℕ) (i : ℕ) → i < connector_count (model_of s) → connector (model_of s) i ≡ connector_at s (nth connector_tag s i).at
unfolding connector model_of
connector-is s i l = get_or-map (λ (f : Field). connector_at s f.at) (of_tag connector_tag (fields s)) i (field_at s 0 0 0) no_connector (rw length-map at l)

pub output-is : (s : List ℕ) (i : ℕ) → i < boundary_output_count (model_of s) → boundary_output (model_of s) i ≡ boundary_output_at s (nth boundary_output_tag s i).at
unfolding boundary_output model_of
output-is s i l = get_or-map (λ (f : Field). boundary_output_at s f.at) (of_tag boundary_output_tag (fields s)) i (field_at s 0 0 0) no_boundary_output (rw length-map at l)

pub connections-length : (s : List ℕ) → connection_count (model_of s) ≡ length (of_tag connection_tag (fields s))
unfolding model_of
connections-length s = length-map (of_tag connection_tag (fields s)) (λ f. connection_at s f.at)

pub connection-is : (s : List ℕ) (i : ℕ) → i < connection_count (model_of s) → connection (model_of s) i ≡ connection_at s (nth connection_tag s i).at
unfolding connection model_of
connection-is s i l = get_or-map (λ (f : Field). connection_at s f.at) (of_tag connection_tag (fields s)) i (field_at s 0 0 0) no_connection (rw length-map at l)

pub inputs-length : (s : List ℕ) → boundary_input_count (model_of s) ≡ length (of_tag boundary_input_tag (fields s))
unfolding model_of
inputs-length s = length-map (of_tag boundary_input_tag (fields s)) (λ f. boundary_input_at s f.at)

pub input-is : (s : List ℕ) (i : ℕ) → i < boundary_input_count (model_of s) → boundary_input (model_of s) i ≡ boundary_input_at s (nth boundary_input_tag s i).at
unfolding boundary_input model_of
input-is s i l = get_or-map (λ (f : Field). boundary_input_at s f.at) (of_tag boundary_input_tag (fields s)) i (field_at s 0 0 0) no_boundary_input (rw length-map at l)

-- ---- lengths

-- a field that is neither a text nor a block has the length of its tag
pub fixed-length : (s : List ℕ) (f : Field) → f.tag ≢ text_tag → f.tag ≢ block_tag → bad_length s f ≡ false → f.len ≡ fixed_length f.tag
unfolding bad_length
fixed-length s f n o h = eqb-true _ _ (not-false _ (rw (ne_eqb f.tag text_tag n, ne_eqb f.tag block_tag o) at h))

pub block-length : (s : List ℕ) (f : Field) → f.tag ≡ block_tag → bad_length s f ≡ false → f.len ≡ 10 + 4 * (input_count_at s f.at + output_count_at s f.at)
unfolding bad_length bad_block_length
block-length s f e h =
    let g = rw e at h in
    let n = f.len in
    let m = 10 + 4 * (input_count_at s f.at + output_count_at s f.at) in
    let a = ltb most_ports (input_count_at s f.at) in
    let b = ltb most_ports (output_count_at s f.at) in
    eqb-true n m (not-false (eqb n m) (or_parts (not (eqb n m)) a (or_parts (not (eqb n m) || a) b g).0).0)

module _ (s : List ℕ) (acc : Accepted s) where
  fixed : (f : Field) → Memᴰ f (fields s) → (t : ℕ) → f.tag ≡ t → t ≢ text_tag → t ≢ block_tag → f.len ≡ fixed_length t
  fixed f m t e n o =
      fixed-length s f (λ q. n (sym e ∙ q)) (λ q. o (sym e ∙ q)) (none-mem (bad_length s) (fields s) acc.lengths f m) ∙ ap fixed_length e

  pub head-len : (f : Field) → Memᴰ f (fields s) → f.tag ≡ head_tag → f.len ≡ 20
  unfolding fixed_length
  head-len f m e = fixed f m 1 e (omega arith) (omega arith)

  pub block-len : (f : Field) → Memᴰ f (fields s) → f.tag ≡ block_tag → f.len ≡ 10 + 4 * (input_count_at s f.at + output_count_at s f.at)
  block-len f m e = block-length s f e (none-mem (bad_length s) (fields s) acc.lengths f m)

  pub connector-len : (f : Field) → Memᴰ f (fields s) → f.tag ≡ connector_tag → f.len ≡ 48
  unfolding fixed_length
  connector-len f m e = fixed f m 4 e (omega arith) (omega arith)

  pub connection-len : (f : Field) → Memᴰ f (fields s) → f.tag ≡ connection_tag → f.len ≡ 8
  unfolding fixed_length
  connection-len f m e = fixed f m 5 e (omega arith) (omega arith)

  pub external-len : (f : Field) → Memᴰ f (fields s) → f.tag ≡ external_input_tag → f.len ≡ 4
  unfolding fixed_length
  external-len f m e = fixed f m 6 e (omega arith) (omega arith)

  pub input-len : (f : Field) → Memᴰ f (fields s) → f.tag ≡ boundary_input_tag → f.len ≡ 34
  unfolding fixed_length
  input-len f m e = fixed f m 7 e (omega arith) (omega arith)

  pub output-len : (f : Field) → Memᴰ f (fields s) → f.tag ≡ boundary_output_tag → f.len ≡ 38
  unfolding fixed_length
  output-len f m e = fixed f m 8 e (omega arith) (omega arith)

  -- the head stands first
  pub head_first : (o : ℕ) → Memᴰ (field_at s 0 0 o) (fields s) → byte s 0 ≡ 1
  unfolding bad_tag tag_is_bad field_at
  head_first o m =
      eqb-true (byte s 0) 1
      (not-false _ (or_parts (eqb (byte s 0) 0 || ltb highest_tag (byte s 0) || ltb (byte s 0) 0) _ (none-mem bad_tag (fields s) acc.tags (field_at s 0 0 o) m)).1)
