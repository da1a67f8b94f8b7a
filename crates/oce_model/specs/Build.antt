-- Images built of records, field by field, for examples. FORMAT 2 to 4.
use Rattle.std.specs.Prelude.{ℕ, ◌-◌, ◌^◌, List, [], ◌∷◌, ◌++◌, length, replicate}
use Rattle.numbers.specs.Bytes.{le_bytes}
use Rattle.oce_model.specs.Format.{head_tag, text_tag, block_tag, connector_tag, connection_tag, external_input_tag, boundary_input_tag, boundary_output_tag, version, real_kind, integer_kind, dir_in, dir_out, no_text}
use Rattle.oce_model.specs.Attributes.{Attrs, attrs_bytes, declare_at}

-- a field: tag, length, contents. FORMAT 2
unfoldable pub field : ℕ → List ℕ → List ℕ
field tag contents = tag ∷ le_bytes 2 (length contents) ++ contents

-- ---- attributes, FORMAT 4

-- a number that is set under a bit
pub record Setting : Type 0 where
  pub bit : ℕ
  pub number : ℕ

infix 70 ◌is◌
abbrev pub ◌is◌ : ℕ → ℕ → Setting
p is v = record { bit = p; number = v }

-- attributes of a kind with some numbers set
unfoldable pub attributes : ℕ → List Setting → Attrs
attributes kind [] = record { kind = kind; marks = 0; nums = replicate 6 0 }
attributes kind (x ∷ xs) = declare_at (attributes kind xs) x.bit x.number

abbrev pub real_with : List Setting → Attrs
real_with = attributes real_kind

abbrev pub integer_with : List Setting → Attrs
integer_with = attributes integer_kind

-- ---- records, FORMAT 3

-- the head with Integer defaults, as 64 bit patterns
unfoldable pub head_field_of : ℕ → ℕ → List ℕ
head_field_of min max = field head_tag (le_bytes 2 version ++ le_bytes 2 0 ++ le_bytes 8 min ++ le_bytes 8 max)

-- and with the Rust's: -2,147,483,648 and 2,147,483,647
unfoldable pub head_field : List ℕ
head_field = head_field_of (2 ^ 64 - 2 ^ 31) (2 ^ 31 - 1)

unfoldable pub text_field : List ℕ → List ℕ
text_field bytes = field text_tag bytes

unfoldable pub ids_bytes : List ℕ → List ℕ
ids_bytes [] = []
ids_bytes (i ∷ rest) = le_bytes 4 i ++ ids_bytes rest

-- a block: instance text, id, inputs, outputs
unfoldable pub block_field_of : ℕ → ℕ → List ℕ → List ℕ → List ℕ
block_field_of instance id inputs outputs =
    field block_tag (le_bytes 4 id ++ le_bytes 2 instance ++ le_bytes 2 (length inputs) ++ le_bytes 2 (length outputs) ++ ids_bytes inputs ++ ids_bytes outputs)

-- one without an instance text
abbrev pub block_field : ℕ → List ℕ → List ℕ → List ℕ
block_field = block_field_of no_text

-- a connector of block 0: type, enum class, direction, id, iri text, attributes
unfoldable pub connector_field_of : ℕ → ℕ → ℕ → ℕ → ℕ → Attrs → List ℕ
connector_field_of type class dir id iri a =
    field connector_tag (le_bytes 4 id ++ le_bytes 4 0 ++ dir ∷ type ∷ le_bytes 4 class ++ le_bytes 2 iri ++ attrs_bytes a)

-- one whose type is its attributes' kind, of enum class 0
abbrev pub connector_field : ℕ → ℕ → ℕ → Attrs → List ℕ
connector_field dir id iri a = connector_field_of a.kind 0 dir id iri a

-- such an Out and such an In, without an iri
abbrev pub out_field : ℕ → Attrs → List ℕ
out_field id a = connector_field dir_out id no_text a

abbrev pub in_field : ℕ → Attrs → List ℕ
in_field id a = connector_field dir_in id no_text a

unfoldable pub connection_field : ℕ → ℕ → List ℕ
connection_field from to = field connection_tag (le_bytes 4 from ++ le_bytes 4 to)

unfoldable pub external_input_field : ℕ → List ℕ
external_input_field id = field external_input_tag (le_bytes 4 id)

unfoldable pub boundary_input_field : ℕ → Attrs → List ℕ
boundary_input_field iri a = field boundary_input_tag (le_bytes 2 iri ++ attrs_bytes a)

unfoldable pub boundary_output_field : ℕ → ℕ → Attrs → List ℕ
boundary_output_field iri source a = field boundary_output_tag (le_bytes 2 iri ++ le_bytes 4 source ++ attrs_bytes a)

-- all of these, opened: a claim that is `unfolding computed_build` computes
unfoldable pub computed_build : ℕ
unfolding field attributes head_field_of head_field text_field ids_bytes block_field_of connector_field_of connection_field external_input_field boundary_input_field boundary_output_field
computed_build = 0
