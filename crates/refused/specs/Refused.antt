-- Images that are turned away, for each refusal from 1 to 10, with the lengths of both buffers and the refusal's number and offset. FORMAT 6.
-- Those of refusal 5, and the one of 1 that is too long, are too long to compute with: what they get is proved by laws.
use Rattle.std.specs.Prelude.{ℕ, zero, suc, ◌+◌, ◌*◌, ◌-◌, cond, List, [], ◌∷◌, ◌++◌, eqb, length, replicate, take}
use Rattle.numbers.specs.Bytes.{le_bytes}
use Rattle.oce_model.specs.Format.{leading_bytes, head_tag, text_tag, block_tag, connection_tag, most, block_length, fixed_length, shortest_image, real_kind, integer_kind, boolean_kind, quantity_bit, unit_bit, display_unit_bit, dir_in, dir_out, no_text}
use Rattle.oce_model.specs.declared.Attrs.{Attrs}
use Rattle.oce_model.specs.Build.{field, ◌is◌, real_with, head_field, text_field, block_field_of, block_field, connector_field_of, connector_field, in_field, connection_field, boundary_input_field, boundary_output_field}
use Rattle.oce_model.specs.Examples.{text_k, model_c}
use Rattle.oce_diag.specs.Encoding.{diagnostic_size}

-- an image, the lengths of the filled buffer and the report buffer, and the refusal's number and offset
pub record Turned : Type 0 where
  pub image : List ℕ
  pub filled_room : ℕ
  pub report_room : ℕ
  pub number : ℕ
  pub offset : ℕ

-- buffers of no bytes, since refusals 1 to 8 come before 9 and 10
abbrev turned : List ℕ → ℕ → ℕ → Turned
turned s n at = record { image = s; filled_room = 0; report_room = 0; number = n; offset = at }

-- a head with an In that has these attributes
abbrev lone : Attrs → List ℕ
lone a = head_field ++ in_field 0 a

-- a head, a text, and an In that has these attributes
abbrev with_text : Attrs → List ℕ
with_text a = head_field ++ text_field text_k ++ in_field 0 a

-- attributes with a byte of set bits and a unit as they stand, allowed or not
abbrev as_they_stand : ℕ → ℕ → ℕ → Attrs
as_they_stand kind marks unit = record { kind = kind; marks = marks; nums = 0 ∷ unit ∷ 0 ∷ 0 ∷ 0 ∷ 0 ∷ [] }

-- an In of a type and an enum class
abbrev of_type_and_class : ℕ → ℕ → List ℕ
of_type_and_class type class = head_field ++ connector_field_of type class dir_in 0 no_text (real_with [])

unfoldable pub turned_away : List Turned
turned_away =
    -- 1: empty, a byte short
    turned [] 1 0
    ∷ turned (take 22 head_field) 1 0
    -- 2: a cut text, two bytes of three, and a cut field behind a bad tag
    ∷ turned (head_field ++ (text_tag ∷ le_bytes 2 2 ++ (0x41 ∷ []))) 2 23
    ∷ turned (head_field ++ (text_tag ∷ 0 ∷ [])) 2 23
    ∷ turned (head_field ++ field 9 [] ++ (text_tag ∷ le_bytes 2 2 ++ (0x41 ∷ []))) 2 26
    -- 3: tags 0 and 9, a tag that falls, no head first, a second head
    ∷ turned (head_field ++ field 0 []) 3 23
    ∷ turned (head_field ++ field 9 []) 3 23
    ∷ turned (head_field ++ connection_field 0 0 ++ text_field text_k) 3 34
    ∷ turned (text_field (replicate 20 0x41)) 3 0
    ∷ turned (head_field ++ head_field) 3 23
    -- 4: a connection of 7 bytes, also behind a bad text; a text of 256; a block of 9 bytes; 257 inputs, 257 outputs whose length fits
    ∷ turned (head_field ++ field connection_tag (replicate 7 0)) 4 23
    ∷ turned (head_field ++ text_field (0x1F ∷ []) ++ field connection_tag (replicate 7 0)) 4 27
    ∷ turned (head_field ++ text_field (replicate 256 0x41)) 4 23
    ∷ turned (head_field ++ field block_tag (replicate 9 0)) 4 23
    ∷ turned (head_field ++ block_field 0 (replicate 257 0) []) 4 23
    ∷ turned (head_field ++ block_field 0 [] (replicate 257 0)) 4 23
    -- 6: version 2, a zero byte that isn't, direction 2, type 5, an enum class of a Real
    ∷ turned (field head_tag (le_bytes 2 2 ++ replicate 18 0)) 6 0
    ∷ turned (field head_tag (le_bytes 2 1 ++ le_bytes 2 256 ++ replicate 16 0)) 6 0
    ∷ turned (head_field ++ connector_field 2 0 no_text (real_with [])) 6 23
    ∷ turned (of_type_and_class 5 0) 6 23
    ∷ turned (of_type_and_class real_kind 1) 6 23
    -- 6, attributes: kind 5, bit 7 without bit 6, a number that is not marked, an Integer's unit, a Boolean's unit
    ∷ turned (lone (as_they_stand 5 0 0)) 6 23
    ∷ turned (lone (as_they_stand real_kind 128 0)) 6 23
    ∷ turned (lone (as_they_stand real_kind 0 1)) 6 23
    ∷ turned (lone (as_they_stand integer_kind 2 0)) 6 23
    ∷ turned (lone (as_they_stand boolean_kind 2 0)) 6 23
    -- 7: bytes below and above the printable ones
    ∷ turned (head_field ++ text_field (0x1F ∷ [])) 7 23
    ∷ turned (head_field ++ text_field text_k ++ text_field (0x7F ∷ [])) 7 27
    -- 8, where the one text is 0: quantity, unit and display unit 1; a unit of 65,535
    ∷ turned (with_text (real_with (quantity_bit is 1 ∷ []))) 8 27
    ∷ turned (with_text (real_with (unit_bit is 1 ∷ []))) 8 27
    ∷ turned (with_text (real_with (display_unit_bit is 1 ∷ []))) 8 27
    ∷ turned (with_text (real_with (unit_bit is no_text ∷ []))) 8 27
    -- 8: a block's instance and a connector's iri that are neither a text nor none; a boundary input and a boundary output with none
    ∷ turned (head_field ++ text_field text_k ++ block_field_of 1 0 [] []) 8 27
    ∷ turned (head_field ++ text_field text_k ++ connector_field dir_out 0 1 (real_with [])) 8 27
    ∷ turned (head_field ++ text_field text_k ++ boundary_input_field no_text (real_with [])) 8 27
    ∷ turned (head_field ++ text_field text_k ++ boundary_output_field no_text 0 (real_with [])) 8 27
    -- 9: a filled buffer one byte short, and an empty report buffer beside it
    ∷ record { image = model_c; filled_room = length model_c - 1; report_room = 0; number = 9; offset = length model_c }
    -- 10: a report buffer one byte short
    ∷ record { image = model_c; filled_room = length model_c; report_room = diagnostic_size - 1; number = 10; offset = diagnostic_size }
    ∷ []

-- ---- refusal 5, for each tag

unfoldable pub repeated : ℕ → List ℕ → List ℕ
repeated zero r = []
repeated (suc n) r = r ++ repeated n r

-- the fewest bytes that the contents of a tag may have: no text, no port
unfoldable pub fewest : ℕ → ℕ
fewest t = cond (eqb t block_tag) block_length (fixed_length t)

-- a head, and one record more of a tag than there may be; their contents are zero bytes
unfoldable pub crowded : ℕ → List ℕ
crowded t = head_field ++ repeated (suc (most t)) (field t (replicate (fewest t) 0))

-- where the first beyond stands
unfoldable pub beyond : ℕ → ℕ
beyond t = shortest_image + (leading_bytes + fewest t) * most t
