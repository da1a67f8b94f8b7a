-- What an accepted image knows of its records, by the numbers of the model: b are its bytes as it holds them, s as clauses see them.
use Prim.Native.Nat.{ℕ, ◌+◌, ◌*◌, ◌<◌, ◌≤◌}
use native.Mathlib.Omega.{arith}
use mathlib.Core.Path.{◌≡◌, refl, sym}
use mathlib.Core.List.{List}
use Rattle.std.specs.Prelude.{Option, Some, None, Err}
use lib.ListN.{length, get_or, take, length-append, length-map}
use Rattle.base.specs.Buffers.{starts_with}
use Rattle.oce_model.specs.Image.{fields, of_tag}
use Rattle.oce_model.specs.declared.Field.{Field}
use Rattle.oce_model.specs.Format.{longest_image, text_tag, block_tag, connector_size, boundary_input_size, boundary_output_size, connector_attrs, boundary_input_attrs, boundary_output_attrs, attrs_length, most_blocks, most_connectors, most_connections, most_external_inputs, most_boundary_inputs, most_boundary_outputs}
use Rattle.oce_model.specs.Attributes.{attrs_at}
use Rattle.oce_model.specs.Model.{model_of, connector, boundary_input, boundary_output, block_count, connector_count, connection_count, boundary_input_count, boundary_output_count, ids_at, block, block_at}
use Rattle.oce_model.specs.Refusals.{refusal}
use Rattle.oce_model.specs.declared.Refusal.{Refusal}
use Rattle.image_accept.specs.Layout.{Laid, Tabled, layout_of, section_of, offsets_of, accepts, acceptance}
use Rattle.image_accept.specs.declared.Layout.{Layout}
use Rattle.numbers.specs.Bytes.{le16, le32}
use Rattle.image_records.specs.Images.{block_value, BlockInside}
use Rattle.image_records.proofs.Offsets.{cut, listed}
use Rattle.image_records.proofs.Laws.{connectors-counted, connections-counted, externals-counted, inputs-counted, outputs-counted, blocks-counted, block-is, block_near, block_inside, input-ports-few, output-ports-few, blocks-few, connector-near, connector-held, connector-has, input-near, input-held, input-has, output-near, output-held, output-has, connectors-few, connections-few, externals-few, boundary-inputs-few, boundary-outputs-few}

module _ {b s : List ℕ} {l : Layout} (e : b ≡ s) (h : Laid b l) where
  pub blocks-of : (l.blocks.count ≡ block_count (model_of s)) × (l.blocks.count ≤ most_blocks)
  blocks-of = (rw (← e) (blocks-counted h), blocks-few h)

  pub connectors-of : (l.connectors.count ≡ connector_count (model_of s)) × (l.connectors.count ≤ most_connectors)
  connectors-of = (rw (← e) (connectors-counted h), connectors-few h)

  pub connections-of : (l.connections.count ≡ connection_count (model_of s)) × (l.connections.count ≤ most_connections)
  connections-of = (rw (← e) (connections-counted h), connections-few h)

  pub externals-of : (l.externals.count ≡ length (model_of s).external_inputs) × (l.externals.count ≤ most_external_inputs)
  externals-of = (rw (← e) (externals-counted h), externals-few h)

  pub inputs-of : (l.inputs.count ≡ boundary_input_count (model_of s)) × (l.inputs.count ≤ most_boundary_inputs)
  inputs-of = (rw (← e) (inputs-counted h), boundary-inputs-few h)

  pub outputs-of : (l.outputs.count ≡ boundary_output_count (model_of s)) × (l.outputs.count ≤ most_boundary_outputs)
  outputs-of = (rw (← e) (outputs-counted h), boundary-outputs-few h)

  -- a number of a record
  module _ {i : ℕ} where
    pub a-block : i < block_count (model_of s) → i < l.blocks.count
    a-block k = rw blocks-of.0 k

    pub a-connector : i < connector_count (model_of s) → i < l.connectors.count
    a-connector k = rw connectors-of.0 k

    pub a-connection : i < connection_count (model_of s) → i < l.connections.count
    a-connection k = rw connections-of.0 k

    pub an-external : i < length (model_of s).external_inputs → i < l.externals.count
    an-external k = rw externals-of.0 k

    pub an-input : i < boundary_input_count (model_of s) → i < l.inputs.count
    an-input k = rw inputs-of.0 k

    pub an-output : i < boundary_output_count (model_of s) → i < l.outputs.count
    an-output k = rw outputs-of.0 k

  -- where attributes stand
  module _ {i at : ℕ} where
    pub connector-attrs : i < connector_count (model_of s) → at ≡ l.connectors.start + connector_size * i + connector_attrs
        → (attrs_at s at ≡ (connector (model_of s) i).attrs) × (at ≤ longest_image + connector_attrs) × (at + attrs_length ≤ length s)
    connector-attrs k q =
        let m = a-connector k in
        let n = connector-near h m in
        rw (q, ← e) (connector-has h m refl, omega arith, connector-held h m refl)

    pub input-attrs : i < boundary_input_count (model_of s) → at ≡ l.inputs.start + boundary_input_size * i + boundary_input_attrs
        → (attrs_at s at ≡ (boundary_input (model_of s) i).attrs) × (at ≤ longest_image + connector_attrs) × (at + attrs_length ≤ length s)
    input-attrs k q =
        let m = an-input k in
        let n = input-near h m in
        rw (q, ← e) (input-has h m refl, omega arith, input-held h m refl)

    pub output-attrs : i < boundary_output_count (model_of s) → at ≡ l.outputs.start + boundary_output_size * i + boundary_output_attrs
        → (attrs_at s at ≡ (boundary_output (model_of s) i).attrs) × (at ≤ longest_image + connector_attrs) × (at + attrs_length ≤ length s)
    output-attrs k q =
        let m = an-output k in
        let n = output-near h m in
        rw (q, ← e) (output-has h m refl, omega arith, output-held h m refl)

  -- the field of a block
  module _ {t : List ℕ} {i : ℕ} (g : t ≡ offsets_of block_tag b) (k : i < block_count (model_of s)) where
    pub block-listed : i < length t
    unfolding model_of
    block-listed = listed block_tag b g (rw (← e) at (rw length-map at k))

    pub block-stands : BlockInside b (get_or t i 0)
    block-stands =
        let n = block-listed in
        record { near = block_near h g n refl; inputs = input-ports-few h g n refl; outputs = output-ports-few h g n refl; ends = block_inside h g n refl }

    pub block-there : block_at b (get_or t i 0) ≡ block (model_of s) i
    block-there = sym (rw (← e) (block-is h g block-listed refl))

    pub block-offset : {at : ℕ} → at ≡ get_or t i 0 → (block (model_of s) i ≡ block_at s at) × BlockInside s at
    block-offset q = rw (q, ← e) (sym (rw (← e) at block-there), block-stands)

-- a block from its parts
pub block-whole : (s : List ℕ) (at : ℕ) {i t n o : ℕ} → i ≡ le32 s (at + 3) → t ≡ le16 s (at + 7) → n ≡ le16 s (at + 9) → o ≡ le16 s (at + 11)
    → record { id = record { 0 = i }; instance = t; inputs = ids_at s (at + 13) n; outputs = ids_at s (at + 13 + 4 * n) o } ≡ block_value (block_at s at)
unfolding block_at block_value
block-whole s at p q r w = rw (p, q, r, w) refl

-- ---- what accepting says

-- the tables are cut to the counts
module _ {s : List ℕ} {l : Layout} (h : Laid s l) {table : List ℕ} where
  pub texts-cut : Tabled text_tag s table → take l.texts.count table ≡ offsets_of text_tag s
  unfolding layout_of section_of
  texts-cut g = rw h.layout (cut text_tag s g)

  pub blocks-cut : Tabled block_tag s table → take l.blocks.count table ≡ offsets_of block_tag s
  unfolding layout_of section_of
  blocks-cut g = rw h.layout (cut block_tag s g)

  long : (t : ℕ) → Tabled t s table → length (of_tag t (fields s)) ≤ length table
  unfolding offsets_of starts_with
  long t g = let n : length (offsets_of t s) ≡ length (of_tag t (fields s)) = length-map (of_tag t (fields s)) (λ (f : Field). f.at) in rw (← n, g.offsets, length-append) (omega arith)

  pub texts-long : Tabled text_tag s table → l.texts.count ≤ length table
  unfolding layout_of section_of
  texts-long g = rw h.layout (long text_tag g)

  pub blocks-long : Tabled block_tag s table → l.blocks.count ≤ length table
  unfolding layout_of section_of
  blocks-long g = rw h.layout (long block_tag g)

pub is-refused : (s : List ℕ) {r : Refusal} → Err r ≡ acceptance s → refusal s ≡ Some r
unfolding acceptance
is-refused s {r} e = arm (refusal s) e
  where
    arm : (o : Option Refusal) → Err r ≡ accepts s o → o ≡ Some r
    arm None q = absurd (cc)
    arm (Some x) q = cc
