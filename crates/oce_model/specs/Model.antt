-- The model that an image holds: its records, in the order of their fields, as far as the rules ask for them. FORMAT 3; the Rust's `ModelGraph`.
use Rattle.std.specs.Prelude.{ℕ, ◌+◌, ◌*◌, Bool, true, false, cond, List, [], map, length, get_or, eqb, ltb, ℤ}
use Rattle.base.specs.Lists.{tab}
use Rattle.numbers.specs.Bytes.{byte, le16, le32, le64, signed64}
use Rattle.oce_model.specs.Format.{text_tag, block_tag, connector_tag, connection_tag, external_input_tag, boundary_input_tag, boundary_output_tag, port_length, block_ports, real_kind, integer_kind, boolean_kind, string_kind, enum_kind, dir_in, dir_out, connector_attrs, boundary_input_attrs, boundary_output_attrs, head_min_at, head_max_at, block_id_at, block_instance_at, block_inputs_at, block_outputs_at, connector_id_at, connector_block_at, connector_dir_at, connector_type_at, connector_class_at, connector_iri_at, connection_from_at, connection_to_at, external_input_id_at, boundary_input_iri_at, boundary_output_iri_at, boundary_output_source_at}
use Rattle.oce_model.specs.Attributes.{Attrs, no_attrs, attrs_at}
use Rattle.oce_model.specs.Image.{fields, of_tag}
use Rattle.oce_model.specs.Texts.{text_of}
use Rattle.oce_model.specs.declared.Dir.{Dir}
use Rattle.oce_model.specs.declared.Dir.TheVariants.{In, Out}
use Rattle.oce_model.specs.declared.Kind.{Kind}
use Rattle.oce_model.specs.declared.Kind.TheVariants.{Real, Integer, Boolean, String, Enum}

-- the head's Integer defaults: what an Integer end is that isn't set. FORMAT 13
pub record Defaults : Type 0 where
  pub min : ℤ
  pub max : ℤ

-- `BlockInstance`: its ports are connectors' numbers; instance_iri is a text number, or no_text
pub record Block : Type 0 where
  pub id : ℕ
  pub instance_iri : ℕ
  pub inputs : List ℕ
  pub outputs : List ℕ

-- `Connector`: block is a block's number; value_type and enum_class are the Rust's `ValueType`; iri is a text number, or no_text
pub record Connector : Type 0 where
  pub id : ℕ
  pub block : ℕ
  pub dir : ℕ
  pub value_type : ℕ
  pub enum_class : ℕ
  pub iri : ℕ
  pub attrs : Attrs

-- `Connection`: from one connector to another, by their numbers
pub record Connection : Type 0 where
  pub from : ℕ
  pub to : ℕ

-- `BoundaryInput`: iri is a text number
pub record BoundaryInput : Type 0 where
  pub iri : ℕ
  pub attrs : Attrs

-- `BoundaryOutput`: iri is a text number, source a connector's number
pub record BoundaryOutput : Type 0 where
  pub iri : ℕ
  pub source : ℕ
  pub attrs : Attrs

-- `ModelGraph`, with the head's Integer defaults and, since records refer to texts by number, the texts. An external input is a connector's id
pub record Model : Type 0 where
  pub defaults : Defaults
  pub texts : List (List ℕ)
  pub blocks : List Block
  pub connectors : List Connector
  pub connections : List Connection
  pub external_inputs : List ℕ
  pub boundary_inputs : List BoundaryInput
  pub boundary_outputs : List BoundaryOutput

-- ---- a record of each kind, read at the offset of its field. FORMAT 3

-- n ids of 4 bytes from an offset on
unfoldable pub ids_at : List ℕ → ℕ → ℕ → List ℕ
ids_at s at n = tab n (λ i. le32 s (at + port_length * i))

-- a block's input count and output count
abbrev pub input_count_at : List ℕ → ℕ → ℕ
input_count_at s at = le16 s (at + block_inputs_at)

abbrev pub output_count_at : List ℕ → ℕ → ℕ
output_count_at s at = le16 s (at + block_outputs_at)

-- id 4, instance text 2, input count 2, output count 2, then ids of 4, inputs first
unfoldable pub block_at : List ℕ → ℕ → Block
block_at s at = record {
  id = le32 s (at + block_id_at);
  instance_iri = le16 s (at + block_instance_at);
  inputs = ids_at s (at + block_ports) (input_count_at s at);
  outputs = ids_at s (at + block_ports + port_length * input_count_at s at) (output_count_at s at);
}

-- id 4, block 4, direction 1, type 1, enum class 4, iri text 2, attributes 32
unfoldable pub connector_at : List ℕ → ℕ → Connector
connector_at s at = record {
  id = le32 s (at + connector_id_at);
  block = le32 s (at + connector_block_at);
  dir = byte s (at + connector_dir_at);
  value_type = byte s (at + connector_type_at);
  enum_class = le32 s (at + connector_class_at);
  iri = le16 s (at + connector_iri_at);
  attrs = attrs_at s (at + connector_attrs);
}

-- from 4, to 4
unfoldable pub connection_at : List ℕ → ℕ → Connection
connection_at s at = record { from = le32 s (at + connection_from_at); to = le32 s (at + connection_to_at) }

-- id 4
unfoldable pub external_input_at : List ℕ → ℕ → ℕ
external_input_at s at = le32 s (at + external_input_id_at)

-- iri text 2, attributes 32
unfoldable pub boundary_input_at : List ℕ → ℕ → BoundaryInput
boundary_input_at s at = record { iri = le16 s (at + boundary_input_iri_at); attrs = attrs_at s (at + boundary_input_attrs) }

-- iri text 2, source 4, attributes 32
unfoldable pub boundary_output_at : List ℕ → ℕ → BoundaryOutput
boundary_output_at s at = record { iri = le16 s (at + boundary_output_iri_at); source = le32 s (at + boundary_output_source_at); attrs = attrs_at s (at + boundary_output_attrs) }

-- the head stands at offset 0: version 2, zero bytes 2, Integer default min 8, max 8
abbrev pub defaults_of : List ℕ → Defaults
defaults_of s = record { min = signed64 (le64 s head_min_at); max = signed64 (le64 s head_max_at) }

-- the model, read off the fields
unfoldable pub model_of : List ℕ → Model
model_of s =
    let fs = fields s in
    record {
      defaults = defaults_of s;
      texts = map (text_of s) (of_tag text_tag fs);
      blocks = map (λ f. block_at s f.at) (of_tag block_tag fs);
      connectors = map (λ f. connector_at s f.at) (of_tag connector_tag fs);
      connections = map (λ f. connection_at s f.at) (of_tag connection_tag fs);
      external_inputs = map (λ f. external_input_at s f.at) (of_tag external_input_tag fs);
      boundary_inputs = map (λ f. boundary_input_at s f.at) (of_tag boundary_input_tag fs);
      boundary_outputs = map (λ f. boundary_output_at s f.at) (of_tag boundary_output_tag fs);
    }

-- ---- records by number, FORMAT 3

-- what stands for one that is not there
unfoldable pub no_block : Block
no_block = record { id = 0; instance_iri = 0; inputs = []; outputs = [] }

unfoldable pub no_connector : Connector
no_connector = record { id = 0; block = 0; dir = 0; value_type = 0; enum_class = 0; iri = 0; attrs = no_attrs }

unfoldable pub no_connection : Connection
no_connection = record { from = 0; to = 0 }

unfoldable pub no_boundary_input : BoundaryInput
no_boundary_input = record { iri = 0; attrs = no_attrs }

unfoldable pub no_boundary_output : BoundaryOutput
no_boundary_output = record { iri = 0; source = 0; attrs = no_attrs }

-- text i, block i, ..
unfoldable pub text : Model → ℕ → List ℕ
text m i = get_or m.texts i []

unfoldable pub block : Model → ℕ → Block
block m i = get_or m.blocks i no_block

unfoldable pub connector : Model → ℕ → Connector
connector m i = get_or m.connectors i no_connector

unfoldable pub connection : Model → ℕ → Connection
connection m i = get_or m.connections i no_connection

unfoldable pub boundary_input : Model → ℕ → BoundaryInput
boundary_input m i = get_or m.boundary_inputs i no_boundary_input

unfoldable pub boundary_output : Model → ℕ → BoundaryOutput
boundary_output m i = get_or m.boundary_outputs i no_boundary_output

-- how many there are
abbrev pub block_count : Model → ℕ
block_count m = length m.blocks

abbrev pub connector_count : Model → ℕ
connector_count m = length m.connectors

abbrev pub connection_count : Model → ℕ
connection_count m = length m.connections

abbrev pub boundary_input_count : Model → ℕ
boundary_input_count m = length m.boundary_inputs

abbrev pub boundary_output_count : Model → ℕ
boundary_output_count m = length m.boundary_outputs

-- a number is that of a block, of a connector; any other is out of range
abbrev pub is_block : Model → ℕ → Bool
is_block m i = ltb i (block_count m)

abbrev pub is_connector : Model → ℕ → Bool
is_connector m i = ltb i (connector_count m)

-- `Dir::In`; a connector that is not In is Out
abbrev pub is_in : Connector → Bool
is_in c = eqb c.dir dir_in

-- its direction, as code has it
unfoldable pub dir_of : Connector → Dir
dir_of c = cond (is_in c) In Out

-- its number
abbrev pub dir_number : Dir → ℕ
dir_number In = dir_in
dir_number Out = dir_out

-- it is In
abbrev pub inwards : Dir → Bool
inwards In = true
inwards Out = false

-- a type by its number, as code has it: an accepted image has no other
unfoldable pub kind_of : ℕ → Kind
kind_of n =
    cond (eqb n real_kind) Real
    (cond (eqb n integer_kind) Integer
    (cond (eqb n boolean_kind) Boolean
    (cond (eqb n string_kind) String Enum)))

-- its number
abbrev pub kind_number : Kind → ℕ
kind_number Real = real_kind
kind_number Integer = integer_kind
kind_number Boolean = boolean_kind
kind_number String = string_kind
kind_number Enum = enum_kind
