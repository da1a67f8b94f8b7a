-- The numbers of the image format, FORMAT 2 to 4. Every other file cites them by these names.
use Rattle.std.specs.Prelude.{ℕ, ◌+◌, [], ◌∷◌, get_or}

-- ---- fields. FORMAT 2

-- the bytes of a field before its contents: a tag and a length of two
abbrev pub leading_bytes : ℕ
leading_bytes = 3

-- where its length stands, from its tag
abbrev pub field_length_at : ℕ
field_length_at = 1

-- the tags. FORMAT 3
abbrev pub head_tag : ℕ
head_tag = 1

abbrev pub text_tag : ℕ
text_tag = 2

abbrev pub block_tag : ℕ
block_tag = 3

abbrev pub connector_tag : ℕ
connector_tag = 4

abbrev pub connection_tag : ℕ
connection_tag = 5

abbrev pub external_input_tag : ℕ
external_input_tag = 6

abbrev pub boundary_input_tag : ℕ
boundary_input_tag = 7

abbrev pub boundary_output_tag : ℕ
boundary_output_tag = 8

abbrev pub highest_tag : ℕ
highest_tag = boundary_output_tag

-- ---- the most records of each tag. FORMAT 3

abbrev pub most_texts : ℕ
most_texts = 1024

abbrev pub most_blocks : ℕ
most_blocks = 256

abbrev pub most_connectors : ℕ
most_connectors = 1024

abbrev pub most_connections : ℕ
most_connections = 2048

abbrev pub most_external_inputs : ℕ
most_external_inputs = 1024

abbrev pub most_boundary_inputs : ℕ
most_boundary_inputs = 256

abbrev pub most_boundary_outputs : ℕ
most_boundary_outputs = 256

-- by tag; there is one head
unfoldable pub most : ℕ → ℕ
most t = get_or (0 ∷ 1 ∷ most_texts ∷ most_blocks ∷ most_connectors ∷ most_connections ∷ most_external_inputs ∷ most_boundary_inputs ∷ most_boundary_outputs ∷ []) t 0

-- ---- the bytes of each tag's contents. FORMAT 3

-- a text has at most longest_text, a block block_length and port_length for each port
abbrev pub longest_text : ℕ
longest_text = 255

abbrev pub block_length : ℕ
block_length = 10

abbrev pub port_length : ℕ
port_length = 4

-- the most inputs of a block, and the most outputs
abbrev pub most_ports : ℕ
most_ports = 256

-- the others have a fixed length
abbrev pub head_length : ℕ
head_length = 20

abbrev pub connector_length : ℕ
connector_length = 48

abbrev pub connection_length : ℕ
connection_length = 8

abbrev pub external_input_length : ℕ
external_input_length = 4

abbrev pub boundary_input_length : ℕ
boundary_input_length = 34

abbrev pub boundary_output_length : ℕ
boundary_output_length = 38

-- by tag
unfoldable pub fixed_length : ℕ → ℕ
fixed_length t = get_or (0 ∷ head_length ∷ 0 ∷ 0 ∷ connector_length ∷ connection_length ∷ external_input_length ∷ boundary_input_length ∷ boundary_output_length ∷ []) t 0

-- a record of each kind of fixed length, with its leading bytes
abbrev pub connector_size : ℕ
connector_size = leading_bytes + connector_length

abbrev pub connection_size : ℕ
connection_size = leading_bytes + connection_length

abbrev pub external_input_size : ℕ
external_input_size = leading_bytes + external_input_length

abbrev pub boundary_input_size : ℕ
boundary_input_size = leading_bytes + boundary_input_length

abbrev pub boundary_output_size : ℕ
boundary_output_size = leading_bytes + boundary_output_length

-- ---- the whole image: a head alone has the fewest bytes. FORMAT 3

abbrev pub shortest_image : ℕ
shortest_image = leading_bytes + head_length

abbrev pub longest_image : ℕ
longest_image = 65535

-- ---- the head

abbrev pub version : ℕ
version = 1

-- ---- types and attribute kinds. FORMAT 3

abbrev pub real_kind : ℕ
real_kind = 0

abbrev pub integer_kind : ℕ
integer_kind = 1

abbrev pub boolean_kind : ℕ
boolean_kind = 2

abbrev pub string_kind : ℕ
string_kind = 3

abbrev pub enum_kind : ℕ
enum_kind = 4

-- ---- directions, as the Rust's `Dir`

abbrev pub dir_in : ℕ
dir_in = 0

abbrev pub dir_out : ℕ
dir_out = 1

-- ---- texts

-- the bytes that they may hold go from the first to the last
abbrev pub first_text_byte : ℕ
first_text_byte = 0x20

abbrev pub last_text_byte : ℕ
last_text_byte = 0x7E

-- the text number that means none, only for a block's instance and a connector's iri
abbrev pub no_text : ℕ
no_text = 65535

-- ---- attributes. FORMAT 4

-- how many bytes they have
abbrev pub attrs_length : ℕ
attrs_length = 32

-- the bits that mark what is set; the first six are also the places of their numbers
abbrev pub quantity_bit : ℕ
quantity_bit = 0

abbrev pub unit_bit : ℕ
unit_bit = 1

abbrev pub display_unit_bit : ℕ
display_unit_bit = 2

abbrev pub min_bit : ℕ
min_bit = 3

abbrev pub max_bit : ℕ
max_bit = 4

abbrev pub nominal_bit : ℕ
nominal_bit = 5

abbrev pub unbounded_bit : ℕ
unbounded_bit = 6

-- the value of unbounded, where unbounded_bit marks it as set
abbrev pub unbounded_value_bit : ℕ
unbounded_value_bit = 7

-- ---- where each part stands, from the start of its field: the contents in their order, behind tag and length. FORMAT 3

-- the head
abbrev pub head_version_at : ℕ
head_version_at = leading_bytes

abbrev pub head_zeros_at : ℕ
head_zeros_at = head_version_at + 2

abbrev pub head_min_at : ℕ
head_min_at = head_zeros_at + 2

abbrev pub head_max_at : ℕ
head_max_at = head_min_at + 8

-- a block; the ids of its ports stand behind
abbrev pub block_id_at : ℕ
block_id_at = leading_bytes

abbrev pub block_instance_at : ℕ
block_instance_at = block_id_at + 4

abbrev pub block_inputs_at : ℕ
block_inputs_at = block_instance_at + 2

abbrev pub block_outputs_at : ℕ
block_outputs_at = block_inputs_at + 2

abbrev pub block_ports : ℕ
block_ports = block_outputs_at + 2

-- a connector
abbrev pub connector_id_at : ℕ
connector_id_at = leading_bytes

abbrev pub connector_block_at : ℕ
connector_block_at = connector_id_at + 4

abbrev pub connector_dir_at : ℕ
connector_dir_at = connector_block_at + 4

abbrev pub connector_type_at : ℕ
connector_type_at = connector_dir_at + 1

abbrev pub connector_class_at : ℕ
connector_class_at = connector_type_at + 1

abbrev pub connector_iri_at : ℕ
connector_iri_at = connector_class_at + 4

abbrev pub connector_attrs : ℕ
connector_attrs = connector_iri_at + 2

-- a connection
abbrev pub connection_from_at : ℕ
connection_from_at = leading_bytes

abbrev pub connection_to_at : ℕ
connection_to_at = connection_from_at + 4

-- an external input
abbrev pub external_input_id_at : ℕ
external_input_id_at = leading_bytes

-- a boundary input
abbrev pub boundary_input_iri_at : ℕ
boundary_input_iri_at = leading_bytes

abbrev pub boundary_input_attrs : ℕ
boundary_input_attrs = boundary_input_iri_at + 2

-- a boundary output
abbrev pub boundary_output_iri_at : ℕ
boundary_output_iri_at = leading_bytes

abbrev pub boundary_output_source_at : ℕ
boundary_output_source_at = boundary_output_iri_at + 2

abbrev pub boundary_output_attrs : ℕ
boundary_output_attrs = boundary_output_source_at + 4

-- attributes, from their own start. FORMAT 4
abbrev pub attrs_marks_at : ℕ
attrs_marks_at = 1

abbrev pub attrs_quantity_at : ℕ
attrs_quantity_at = attrs_marks_at + 1

abbrev pub attrs_unit_at : ℕ
attrs_unit_at = attrs_quantity_at + 2

abbrev pub attrs_display_unit_at : ℕ
attrs_display_unit_at = attrs_unit_at + 2

abbrev pub attrs_min_at : ℕ
attrs_min_at = attrs_display_unit_at + 2

abbrev pub attrs_max_at : ℕ
attrs_max_at = attrs_min_at + 8

abbrev pub attrs_nominal_at : ℕ
attrs_nominal_at = attrs_max_at + 8
