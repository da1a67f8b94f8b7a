-- Where the records of an accepted image stand, by its layout.
use Prim.Native.Nat.{ℕ, ◌+◌, ◌*◌, ◌<◌, ◌≤◌}
use native.Mathlib.Nat.{le_refl}
use native.Mathlib.Omega.{arith}
use mathlib.Core.Path.{◌≡◌, refl, sym, ap, ◌∙◌}
use mathlib.Core.Logic.{◌≢◌}
use mathlib.Core.Bool.{false, cond, not, ◌||◌}
use mathlib.Core.List.{List}
use lib.ListN.{length, get_or, length-map}
use lib.Dec.{eqb, ltb}
use borrow.Author.Tests.{eqb-true, ltb-false, not-false}
use Rattle.base.proofs.Lists.{get_or-tab, or_parts}
use Rattle.base.proofs.Members.{get_or-map}
use Rattle.numbers.specs.Bytes.{byte, le16, le32}
use Rattle.oce_model.specs.Format.{leading_bytes, longest_image, block_ports, port_length, most_ports, block_length, text_tag, block_tag, fixed_length, most, most_texts, most_blocks, most_connectors, most_connections, most_external_inputs, most_boundary_inputs, most_boundary_outputs, connector_tag, connection_tag, external_input_tag, boundary_input_tag, boundary_output_tag, connector_size, connection_size, external_input_size, boundary_input_size, boundary_output_size, connector_attrs, boundary_input_attrs, boundary_output_attrs, attrs_length, dir_in}
use Rattle.oce_model.specs.Attributes.{attrs_at}
use Rattle.oce_model.specs.Image.{field_at, fields, of_tag, start_of}
use Rattle.oce_model.specs.declared.Field.{Field}
use Rattle.oce_model.specs.Model.{dir_of, kind_of, kind_number, dir_number, model_of, ids_at, input_count_at, output_count_at, no_block, block, block_at, connector, connector_at, connection, connection_at, external_input_at, boundary_input, boundary_input_at, boundary_output, boundary_output_at, block_count, connector_count, connection_count, boundary_input_count, boundary_output_count}
use Rattle.oce_model.specs.Refusals.{bad_length, bad_block_length}
use Rattle.oce_model.specs.declared.ConnectorFront.{ConnectorFront}
use Rattle.oce_model.specs.declared.Dir.{Dir}
use Rattle.oce_model.specs.declared.Kind.{Kind}
use Rattle.oce_model.specs.declared.Dir.TheVariants.{In, Out}
use Rattle.oce_model.proofs.Accepted.{Accepted, accepted, fixed-length, connectors-length, connections-length, inputs-length, outputs-length}
use Rattle.oce_model.proofs.Fields.{none-mem, nth, nth-mem, nth-tag}
use Rattle.oce_model.proofs.Places.{field-end}
use Rattle.oce_model.proofs.Records.{connector-type, connector-dir, kind-number, nth-at, connector-at, connection-at, external-at, input-at, output-at}
use Rattle.image_accept.specs.Layout.{Laid, section_of, layout_of, offsets_of}
use Rattle.image_accept.specs.declared.Layout.{Layout}
use Rattle.image_accept.proofs.Rooms.{accepted-room}
use Rattle.image_records.proofs.Offsets.{many, stands}
use Rattle.image_records.specs.Records.{connector_read, connection_read, output_read}

-- a record of a kind of fixed length stands inside the image
placed : (s : List ℕ) → Accepted s → (t z i : ℕ) → t ≢ text_tag → t ≢ block_tag → leading_bytes + fixed_length t ≡ z → i < length (of_tag t (fields s)) → start_of t s + z * i ≤ longest_image
placed s acc t z i n o e k =
    let a : (nth t s i).at ≡ start_of t s + z * i = nth-at s acc t z i n o e k in
    let f = field-end s (nth t s i) (nth-mem t s i k) in
    let h : length s ≤ longest_image = acc.short in
    omega arith

-- and ends inside it
inside : (s : List ℕ) → Accepted s → (t z i : ℕ) → t ≢ text_tag → t ≢ block_tag → leading_bytes + fixed_length t ≡ z → i < length (of_tag t (fields s)) → start_of t s + z * i + z ≤ length s
inside s acc t z i n o e k =
    let a : (nth t s i).at ≡ start_of t s + z * i = nth-at s acc t z i n o e k in
    let m = nth-mem t s i k in
    let f = field-end s (nth t s i) m in
    let q : (nth t s i).tag ≡ t = nth-tag t s i k in
    let w : (nth t s i).len ≡ fixed_length t = fixed-length s (nth t s i) (λ r. n (sym q ∙ r)) (λ r. o (sym q ∙ r)) (none-mem (bad_length s) (fields s) acc.lengths (nth t s i) m) ∙ ap fixed_length q in
    omega arith

-- a connector from its parts
pub connector-parts : (s : List ℕ) (at : ℕ) {i b n c t : ℕ} {d : Dir} {k : Kind} → i ≡ le32 s (at + 3) → b ≡ le32 s (at + 7) → n ≡ byte s (at + 11) → d ≡ cond (eqb n dir_in) In Out → k ≡ kind_of (byte s (at + 12)) → c ≡ le32 s (at + 13) → t ≡ le16 s (at + 17)
    → record { id = record { 0 = i }; block = record { 0 = b }; dir = d; value_type = k; class = c; iri = t } ≡ connector_read (connector_at s at)
unfolding connector_at connector_read dir_of
connector-parts s at e₁ e₂ e₃ e₄ e₅ e₆ e₇ = rw (e₁, e₂, e₄, e₃, e₅, e₆, e₇) refl

-- port j of n ids
pub port-is : (s : List ℕ) (ids n j : ℕ) → j < n → get_or (ids_at s ids n) j 0 ≡ le32 s (ids + port_length * j)
unfolding ids_at
port-is s ids n j k = get_or-tab n _ j 0 k

module _ {s : List ℕ} {l : Layout} (h : Laid s l) where
  acc : Accepted s
  acc = accepted s h.accepted

  -- ---- how many there are
  pub connectors-counted : l.connectors.count ≡ connector_count (model_of s)
  unfolding layout_of section_of
  connectors-counted = rw h.layout (sym (connectors-length s))

  pub connections-counted : l.connections.count ≡ connection_count (model_of s)
  unfolding layout_of section_of
  connections-counted = rw h.layout (sym (connections-length s))

  pub externals-counted : l.externals.count ≡ length (model_of s).external_inputs
  unfolding layout_of section_of model_of
  externals-counted = rw (h.layout, length-map)

  pub inputs-counted : l.inputs.count ≡ boundary_input_count (model_of s)
  unfolding layout_of section_of
  inputs-counted = rw h.layout (sym (inputs-length s))

  pub outputs-counted : l.outputs.count ≡ boundary_output_count (model_of s)
  unfolding layout_of section_of
  outputs-counted = rw h.layout (sym (outputs-length s))

  pub blocks-counted : l.blocks.count ≡ block_count (model_of s)
  unfolding layout_of section_of model_of
  blocks-counted = rw (h.layout, length-map)

  -- ---- and at most
  few : (t : ℕ) → length (of_tag t (fields s)) ≤ most t
  unfolding offsets_of
  few t = let e = accepted-room t s h.accepted (le_refl (most t)) in rw length-map at e

  pub texts-few : l.texts.count ≤ most_texts
  unfolding layout_of section_of most
  texts-few = rw h.layout (few text_tag)

  pub blocks-few : l.blocks.count ≤ most_blocks
  unfolding layout_of section_of most
  blocks-few = rw h.layout (few block_tag)

  pub connectors-few : l.connectors.count ≤ most_connectors
  unfolding layout_of section_of most
  connectors-few = rw h.layout (few connector_tag)

  pub connections-few : l.connections.count ≤ most_connections
  unfolding layout_of section_of most
  connections-few = rw h.layout (few connection_tag)

  pub externals-few : l.externals.count ≤ most_external_inputs
  unfolding layout_of section_of most
  externals-few = rw h.layout (few external_input_tag)

  pub boundary-inputs-few : l.inputs.count ≤ most_boundary_inputs
  unfolding layout_of section_of most
  boundary-inputs-few = rw h.layout (few boundary_input_tag)

  pub boundary-outputs-few : l.outputs.count ≤ most_boundary_outputs
  unfolding layout_of section_of most
  boundary-outputs-few = rw h.layout (few boundary_output_tag)

  module _ {i : ℕ} where
    -- ---- connectors
    module _ (k : i < l.connectors.count) where
      pub connector-near : l.connectors.start + connector_size * i ≤ longest_image
      unfolding layout_of section_of fixed_length
      connector-near = rw h.layout (placed s acc connector_tag connector_size i (omega arith) (omega arith) refl (rw h.layout at k))

      pub connector-inside : {at : ℕ} → at ≡ l.connectors.start + connector_size * i → at + connector_size ≤ length s
      unfolding layout_of section_of fixed_length
      connector-inside e = rw (e, h.layout) (inside s acc connector_tag connector_size i (omega arith) (omega arith) refl (rw h.layout at k))

      pub connector-held : {at : ℕ} → at ≡ l.connectors.start + connector_size * i → at + connector_attrs + attrs_length ≤ length s
      connector-held e = let f = connector-inside e in omega arith

      connector-is : connector_at s (l.connectors.start + connector_size * i) ≡ connector (model_of s) i
      unfolding layout_of section_of
      connector-is =
          let n : i < connector_count (model_of s) = rw (connectors-length s) (rw h.layout at k) in
          rw h.layout (sym (connector-at s acc i n))

      pub connector-read : {at : ℕ} {c : ConnectorFront} → at ≡ l.connectors.start + connector_size * i → c ≡ connector_read (connector_at s at) → c ≡ connector_read (connector (model_of s) i)
      connector-read e q = q ∙ ap connector_read (ap (connector_at s) e ∙ connector-is)

      pub connector-typed : {c : ConnectorFront} → c ≡ connector_read (connector (model_of s) i) → kind_number c.value_type ≡ (connector (model_of s) i).value_type
      unfolding connector_read
      connector-typed e = rw e (kind-number _ (connector-type s acc i (rw (sym connectors-counted) k)))

      pub connector-turned : {c : ConnectorFront} → c ≡ connector_read (connector (model_of s) i) → dir_number c.dir ≡ (connector (model_of s) i).dir
      unfolding connector_read
      connector-turned e = rw e (connector-dir s acc i (rw (sym connectors-counted) k))

      pub connector-has : {at : ℕ} → at ≡ l.connectors.start + connector_size * i → attrs_at s (at + connector_attrs) ≡ (connector (model_of s) i).attrs
      unfolding connector_at
      connector-has e = rw e (ap (λ c. c.attrs) connector-is)

    -- ---- connections
    module _ (k : i < l.connections.count) where
      pub connection-near : l.connections.start + connection_size * i ≤ longest_image
      unfolding layout_of section_of fixed_length
      connection-near = rw h.layout (placed s acc connection_tag connection_size i (omega arith) (omega arith) refl (rw h.layout at k))

      pub connection-from : {at : ℕ} → at ≡ l.connections.start + connection_size * i → at + 3 + 4 ≤ length s
      unfolding layout_of section_of fixed_length
      connection-from e = let f = inside s acc connection_tag connection_size i (omega arith) (omega arith) refl (rw h.layout at k) in rw (e, h.layout) (omega (arith, f))

      pub connection-to : {at : ℕ} → at ≡ l.connections.start + connection_size * i → at + 7 + 4 ≤ length s
      unfolding layout_of section_of fixed_length
      connection-to e = let f = inside s acc connection_tag connection_size i (omega arith) (omega arith) refl (rw h.layout at k) in rw (e, h.layout) (omega (arith, f))

      connection-is : connection_at s (l.connections.start + connection_size * i) ≡ connection (model_of s) i
      unfolding layout_of section_of
      connection-is =
          let n : i < connection_count (model_of s) = rw (connections-length s) (rw h.layout at k) in
          rw h.layout (sym (connection-at s acc i n))

      pub connection-read : {at a b : ℕ} → at ≡ l.connections.start + connection_size * i → a ≡ le32 s (at + 3) → b ≡ le32 s (at + 7)
          → record { from = record { 0 = a }; to = record { 0 = b } } ≡ connection_read (connection (model_of s) i)
      unfolding connection_at connection_read
      connection-read e p q = rw (p, q, e) (ap connection_read connection-is)

    -- ---- external inputs
    module _ (k : i < l.externals.count) where
      pub external-near : l.externals.start + external_input_size * i ≤ longest_image
      unfolding layout_of section_of fixed_length
      external-near = rw h.layout (placed s acc external_input_tag external_input_size i (omega arith) (omega arith) refl (rw h.layout at k))

      pub external-inside : {at : ℕ} → at ≡ l.externals.start + external_input_size * i → at + 3 + 4 ≤ length s
      unfolding layout_of section_of fixed_length
      external-inside e = let f = inside s acc external_input_tag external_input_size i (omega arith) (omega arith) refl (rw h.layout at k) in rw (e, h.layout) (omega (arith, f))

      pub external-read : {at a : ℕ} → at ≡ l.externals.start + external_input_size * i → a ≡ le32 s (at + 3) → a ≡ get_or (model_of s).external_inputs i 0
      unfolding layout_of section_of external_input_at model_of
      external-read e p =
          let n : i < length (model_of s).external_inputs = rw length-map (rw h.layout at k) in
          p ∙ rw e (rw h.layout (sym (external-at s acc i 0 n)))

    -- ---- boundary inputs
    module _ (k : i < l.inputs.count) where
      pub input-near : l.inputs.start + boundary_input_size * i ≤ longest_image
      unfolding layout_of section_of fixed_length
      input-near = rw h.layout (placed s acc boundary_input_tag boundary_input_size i (omega arith) (omega arith) refl (rw h.layout at k))

      pub input-inside : {at : ℕ} → at ≡ l.inputs.start + boundary_input_size * i → at + 3 + 2 ≤ length s
      unfolding layout_of section_of fixed_length
      input-inside e = let f = inside s acc boundary_input_tag boundary_input_size i (omega arith) (omega arith) refl (rw h.layout at k) in rw (e, h.layout) (omega (arith, f))

      pub input-held : {at : ℕ} → at ≡ l.inputs.start + boundary_input_size * i → at + boundary_input_attrs + attrs_length ≤ length s
      unfolding layout_of section_of fixed_length
      input-held e = let f = inside s acc boundary_input_tag boundary_input_size i (omega arith) (omega arith) refl (rw h.layout at k) in rw (e, h.layout) (omega (arith, f))

      input-is : boundary_input_at s (l.inputs.start + boundary_input_size * i) ≡ boundary_input (model_of s) i
      unfolding layout_of section_of
      input-is =
          let n : i < boundary_input_count (model_of s) = rw (inputs-length s) (rw h.layout at k) in
          rw h.layout (sym (input-at s acc i n))

      pub input-iri : {at a : ℕ} → at ≡ l.inputs.start + boundary_input_size * i → a ≡ le16 s (at + 3) → a ≡ (boundary_input (model_of s) i).iri
      unfolding boundary_input_at
      input-iri e p = p ∙ rw e (ap (λ b. b.iri) input-is)

      pub input-has : {at : ℕ} → at ≡ l.inputs.start + boundary_input_size * i → attrs_at s (at + boundary_input_attrs) ≡ (boundary_input (model_of s) i).attrs
      unfolding boundary_input_at
      input-has e = rw e (ap (λ b. b.attrs) input-is)

    -- ---- boundary outputs
    module _ (k : i < l.outputs.count) where
      pub output-near : l.outputs.start + boundary_output_size * i ≤ longest_image
      unfolding layout_of section_of fixed_length
      output-near = rw h.layout (placed s acc boundary_output_tag boundary_output_size i (omega arith) (omega arith) refl (rw h.layout at k))

      pub output-inside : {at : ℕ} → at ≡ l.outputs.start + boundary_output_size * i → at + 3 + 2 ≤ length s
      unfolding layout_of section_of fixed_length
      output-inside e = let f = inside s acc boundary_output_tag boundary_output_size i (omega arith) (omega arith) refl (rw h.layout at k) in rw (e, h.layout) (omega (arith, f))

      pub output-source : {at : ℕ} → at ≡ l.outputs.start + boundary_output_size * i → at + 5 + 4 ≤ length s
      unfolding layout_of section_of fixed_length
      output-source e = let f = inside s acc boundary_output_tag boundary_output_size i (omega arith) (omega arith) refl (rw h.layout at k) in rw (e, h.layout) (omega (arith, f))

      pub output-held : {at : ℕ} → at ≡ l.outputs.start + boundary_output_size * i → at + boundary_output_attrs + attrs_length ≤ length s
      unfolding layout_of section_of fixed_length
      output-held e = let f = inside s acc boundary_output_tag boundary_output_size i (omega arith) (omega arith) refl (rw h.layout at k) in rw (e, h.layout) (omega (arith, f))

      output-is : boundary_output_at s (l.outputs.start + boundary_output_size * i) ≡ boundary_output (model_of s) i
      unfolding layout_of section_of
      output-is =
          let n : i < boundary_output_count (model_of s) = rw (outputs-length s) (rw h.layout at k) in
          rw h.layout (sym (output-at s acc i n))

      pub output-read : {at a b : ℕ} → at ≡ l.outputs.start + boundary_output_size * i → a ≡ le16 s (at + 3) → b ≡ le32 s (at + 5)
          → record { iri = a; source = record { 0 = b } } ≡ output_read (boundary_output (model_of s) i)
      unfolding boundary_output_at output_read
      output-read e p q = rw (p, q, e) (ap output_read output-is)

      pub output-has : {at : ℕ} → at ≡ l.outputs.start + boundary_output_size * i → attrs_at s (at + boundary_output_attrs) ≡ (boundary_output (model_of s) i).attrs
      unfolding boundary_output_at
      output-has e = rw e (ap (λ o. o.attrs) output-is)

    -- ---- blocks, by the table of their offsets
    module _ {blocks : List ℕ} (g : blocks ≡ offsets_of block_tag s) (k : i < length blocks) where
      field-many : i < length (of_tag block_tag (fields s))
      field-many = many block_tag s g k

      pub block-is : {at : ℕ} → at ≡ get_or blocks i 0 → block (model_of s) i ≡ block_at s at
      unfolding block model_of
      block-is e = get_or-map (λ (f : Field). block_at s f.at) (of_tag block_tag (fields s)) i (field_at s 0 0 0) no_block field-many ∙ ap (block_at s) (sym (e ∙ stands block_tag s g k))

      pub block_near : {at : ℕ} → at ≡ get_or blocks i 0 → at ≤ longest_image
      block_near {at} e =
          let a : at ≡ (nth block_tag s i).at = e ∙ stands block_tag s g k in
          let f = field-end s (nth block_tag s i) (nth-mem block_tag s i field-many) in
          let n : length s ≤ longest_image = acc.short in
          omega arith

      field-fine : bad_block_length s (nth block_tag s i) ≡ false
      unfolding bad_length
      field-fine =
          let b : bad_length s (nth block_tag s i) ≡ false = none-mem (bad_length s) (fields s) acc.lengths (nth block_tag s i) (nth-mem block_tag s i field-many) in
          rw (nth-tag block_tag s i field-many) at b

      parts : ((not (eqb (nth block_tag s i).len (block_length + port_length * (input_count_at s (nth block_tag s i).at + output_count_at s (nth block_tag s i).at))) || ltb most_ports (input_count_at s (nth block_tag s i).at)) ≡ false) × (ltb most_ports (output_count_at s (nth block_tag s i).at) ≡ false)
      unfolding bad_block_length
      parts = or_parts (not (eqb (nth block_tag s i).len (block_length + port_length * (input_count_at s (nth block_tag s i).at + output_count_at s (nth block_tag s i).at))) || ltb most_ports (input_count_at s (nth block_tag s i).at)) (ltb most_ports (output_count_at s (nth block_tag s i).at)) field-fine

      -- its ports too end inside the image
      pub block_inside : {at : ℕ} → at ≡ get_or blocks i 0 → at + block_ports + port_length * (input_count_at s at + output_count_at s at) ≤ length s
      block_inside {at} e =
          let f = nth block_tag s i in
          let n = field-end s f (nth-mem block_tag s i field-many) in
          let w : f.len ≡ block_length + port_length * (input_count_at s f.at + output_count_at s f.at) = eqb-true f.len _ (not-false _ (or_parts _ _ parts.0).0) in
          rw (e ∙ stands block_tag s g k) (omega arith)

      pub input-ports-few : {at : ℕ} → at ≡ get_or blocks i 0 → input_count_at s at ≤ most_ports
      input-ports-few {at} e =
          let f = nth block_tag s i in
          rw (e ∙ stands block_tag s g k) (ltb-false most_ports (input_count_at s f.at) (or_parts (not (eqb f.len (block_length + port_length * (input_count_at s f.at + output_count_at s f.at)))) (ltb most_ports (input_count_at s f.at)) parts.0).1)

      pub output-ports-few : {at : ℕ} → at ≡ get_or blocks i 0 → output_count_at s at ≤ most_ports
      output-ports-few {at} e = rw (e ∙ stands block_tag s g k) (ltb-false most_ports (output_count_at s (nth block_tag s i).at) parts.1)
