-- Two images for values that move along connections, FORMAT 18: one that meets all its premises, and one that shows why attributes must be of their type's kind.
use Rattle.std.specs.Prelude.{ℕ, List, [], ◌∷◌, ◌++◌}
use Rattle.oce_model.specs.Format.{real_kind, string_kind, enum_kind, dir_in, dir_out, no_text, unit_bit, min_bit, max_bit}
use Rattle.oce_model.specs.declared.Attrs.{Attrs}
use Rattle.oce_model.specs.Build.{◌is◌, attributes, real_with, integer_with, head_field, text_field, block_field, connector_field_of, out_field, in_field, connection_field, external_input_field, boundary_output_field}
use Rattle.oce_model.specs.Examples.{text_k, units, kelvin, zero+, ten, computed_examples}

-- K once more, as text 2
abbrev pub kelvin_again : ℕ
kelvin_again = 2

-- an Enum class
abbrev pub season : ℕ
season = 7

-- Root 0, a Real Out, drives In 1 and In 2 and is the source of a boundary output. Root 3, an Integer Out, drives In 4 and is the source of a boundary output.
-- Root 5, an Enum Out, drives In 6. In 7, a String, is external and has no connection. a to g are the attributes of the Real and the Integer slots
unfoldable pub wires : Attrs → Attrs → Attrs → Attrs → Attrs → Attrs → Attrs → List ℕ
wires a b c d e f g =
    head_field ++ units ++ text_field text_k ++ block_field 0 (1 ∷ 2 ∷ 4 ∷ 6 ∷ 7 ∷ []) (0 ∷ 3 ∷ 5 ∷ [])
    ++ out_field 0 a ++ in_field 1 b ++ in_field 2 c ++ out_field 3 d ++ in_field 4 e
    ++ connector_field_of enum_kind season dir_out 5 no_text (attributes enum_kind []) ++ connector_field_of enum_kind season dir_in 6 no_text (attributes enum_kind [])
    ++ in_field 7 (attributes string_kind [])
    ++ connection_field 0 1 ++ connection_field 0 2 ++ connection_field 3 4 ++ connection_field 5 6 ++ external_input_field 7
    ++ boundary_output_field 1 0 f ++ boundary_output_field 1 3 g

-- the Real Out has the unit K and the min 0.0, one In the max 10.0, the other K by another number; the Integer Out has the min 3, its boundary output the max 7
unfoldable pub witness_image : List ℕ
witness_image =
    wires (real_with (unit_bit is kelvin ∷ min_bit is zero+ ∷ [])) (real_with (max_bit is ten ∷ [])) (real_with (unit_bit is kelvin_again ∷ []))
    (integer_with (min_bit is 3 ∷ [])) (integer_with []) (real_with []) (integer_with (max_bit is 7 ∷ []))

-- filled, all of a cluster have what one of them has
unfoldable pub filled_real : ℕ → Attrs
filled_real unit = real_with (unit_bit is unit ∷ min_bit is zero+ ∷ max_bit is ten ∷ [])

unfoldable pub filled_integer : Attrs
filled_integer = integer_with (min_bit is 3 ∷ max_bit is 7 ∷ [])

unfoldable pub witness_filled : List ℕ
witness_filled =
    wires (filled_real kelvin) (filled_real kelvin) (filled_real kelvin_again) filled_integer filled_integer (filled_real kelvin) filled_integer

-- an In of type Real, whatever the kind of its attributes
abbrev real_in : ℕ → Attrs → List ℕ
real_in id a = connector_field_of real_kind 0 dir_in id no_text a

-- two Ins of type Real with Integer ends, one with the min 5 and one with the max 3: unified apart from the Out, they end with a range from 5 to 3 that no rule reports
unfoldable pub unlike : List ℕ
unlike =
    head_field ++ block_field 0 (1 ∷ 2 ∷ []) (0 ∷ []) ++ out_field 0 (real_with []) ++ real_in 1 (integer_with (min_bit is 5 ∷ [])) ++ real_in 2 (integer_with (max_bit is 3 ∷ []))
    ++ connection_field 0 1 ++ connection_field 0 2

-- all of these, opened: a claim that is `unfolding computed_witness` computes
unfoldable pub computed_witness : ℕ
unfolding computed_examples wires witness_image filled_real filled_integer witness_filled unlike
computed_witness = 0
