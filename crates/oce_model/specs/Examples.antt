-- The thirteen models of FORMAT 21 and the image of 78 bytes of FORMAT 19, then models of our own, so that every detail of every rule is shown by one.
-- What the rules give for each stands with the rules; what a whole check gives, in the crate outcome.
use Rattle.std.specs.Prelude.{ℕ, List, [], ◌∷◌, ◌++◌, replicate}
use Rattle.oce_model.specs.Format.{quantity_bit, unit_bit, display_unit_bit, min_bit, max_bit, dir_in, dir_out, no_text, enum_kind}
use Rattle.oce_model.specs.Attributes.{Attrs}
use Rattle.oce_model.specs.Build.{◌is◌, attributes, real_with, integer_with, head_field, text_field, block_field_of, block_field, connector_field_of, connector_field, out_field, in_field, connection_field, external_input_field, boundary_input_field, boundary_output_field, computed_build}

-- ---- texts: `K`, `degC`, `u`
abbrev pub text_k : List ℕ
text_k = 75 ∷ []

abbrev pub text_deg_c : List ℕ
text_deg_c = 100 ∷ 101 ∷ 103 ∷ 67 ∷ []

abbrev pub text_u : List ℕ
text_u = 117 ∷ []

-- where a model has units, K is text 0 and degC text 1
unfoldable pub units : List ℕ
units = text_field text_k ++ text_field text_deg_c

abbrev pub kelvin : ℕ
kelvin = 0

abbrev pub celsius : ℕ
celsius = 1

-- ---- Real ends by their 64 bits: 0.0, -0.0, 3.0, 5.0, 10.0, 20.0 and a NaN
abbrev pub zero+ : ℕ
zero+ = 0

abbrev pub zero- : ℕ
zero- = 0x8000000000000000

abbrev pub three : ℕ
three = 0x4008000000000000

abbrev pub five : ℕ
five = 0x4014000000000000

abbrev pub ten : ℕ
ten = 0x4024000000000000

abbrev pub twenty : ℕ
twenty = 0x4034000000000000

abbrev pub a_nan : ℕ
a_nan = 0x7FF8000000000001

-- one block with an Out, 0, that is connected to an In, 1
unfoldable pub pair : List ℕ → Attrs → Attrs → List ℕ
pair texts a b = head_field ++ texts ++ block_field 0 (1 ∷ []) (0 ∷ []) ++ out_field 0 a ++ in_field 1 b ++ connection_field 0 1

-- ---- the thirteen, FORMAT 21

-- a head alone
unfoldable pub model_a : List ℕ
model_a = head_field

-- an Out with unit K drives an In without one
unfoldable pub model_b : List ℕ
model_b = pair units (real_with (unit_bit is kelvin ∷ [])) (real_with [])

-- b, but the In has degC
unfoldable pub model_c : List ℕ
model_c = pair units (real_with (unit_bit is kelvin ∷ [])) (real_with (unit_bit is celsius ∷ []))

-- an Out with min 0.0 drives an In with min -0.0
unfoldable pub model_d : List ℕ
model_d = pair [] (real_with (min_bit is zero+ ∷ [])) (real_with (min_bit is zero- ∷ []))

-- both have the same NaN as min
unfoldable pub model_e : List ℕ
model_e = pair [] (real_with (min_bit is a_nan ∷ [])) (real_with (min_bit is a_nan ∷ []))

-- a Real Out with min 5 drives an In with max 3
unfoldable pub model_f : List ℕ
model_f = pair [] (real_with (min_bit is five ∷ [])) (real_with (max_bit is three ∷ []))

-- two Outs, with K and degC, drive one In
unfoldable pub model_g : List ℕ
model_g =
    head_field ++ units ++ block_field 0 (2 ∷ []) (0 ∷ 1 ∷ []) ++ out_field 0 (real_with (unit_bit is kelvin ∷ [])) ++ out_field 1 (real_with (unit_bit is celsius ∷ []))
    ++ in_field 2 (real_with []) ++ connection_field 0 2 ++ connection_field 1 2

-- a good connection, and one from no connector, to one In
unfoldable pub model_h : List ℕ
model_h = pair [] (real_with []) (real_with []) ++ connection_field 9 1

-- an In is driven and external
unfoldable pub model_i : List ℕ
model_i = pair [] (real_with []) (real_with []) ++ external_input_field 1

-- an Integer Out with min 2,147,483,648
unfoldable pub model_j : List ℕ
model_j = head_field ++ block_field 0 [] (0 ∷ []) ++ out_field 0 (integer_with (min_bit is 2147483648 ∷ []))

-- an Integer Out with min 2,147,483,647
unfoldable pub model_k : List ℕ
model_k = head_field ++ block_field 0 [] (0 ∷ []) ++ out_field 0 (integer_with (min_bit is 2147483647 ∷ []))

-- an external In `u` from 0 to 10, a boundary input `u` from 20
unfoldable pub model_l : List ℕ
model_l =
    head_field ++ text_field text_u ++ block_field 0 (0 ∷ []) [] ++ connector_field dir_in 0 0 (real_with (min_bit is zero+ ∷ max_bit is ten ∷ []))
    ++ external_input_field 0 ++ boundary_input_field 0 (real_with (min_bit is twenty ∷ []))

-- an Out with unit K drives an In; their display units differ
unfoldable pub model_m : List ℕ
model_m = pair units (real_with (unit_bit is kelvin ∷ display_unit_bit is kelvin ∷ [])) (real_with (display_unit_bit is celsius ∷ []))

-- ---- models of our own: when rule 6 fills, and when 6.8 is asked

-- two pairs in one block: root 0's range is crossed once filled, root 2's units differ. An error, so 6.8 is not asked of any root
unfoldable pub model_n : List ℕ
model_n =
    head_field ++ units ++ block_field 0 (1 ∷ 3 ∷ []) (0 ∷ 2 ∷ [])
    ++ out_field 0 (real_with (min_bit is five ∷ [])) ++ in_field 1 (real_with (max_bit is three ∷ []))
    ++ out_field 2 (real_with (unit_bit is kelvin ∷ [])) ++ in_field 3 (real_with (unit_bit is celsius ∷ []))
    ++ connection_field 0 1 ++ connection_field 2 3

-- b with an In more that nothing drives: rule 3's error undoes the filling
unfoldable pub model_o : List ℕ
model_o =
    head_field ++ units ++ block_field 0 (1 ∷ 2 ∷ []) (0 ∷ [])
    ++ out_field 0 (real_with (unit_bit is kelvin ∷ [])) ++ in_field 1 (real_with []) ++ in_field 2 (real_with []) ++ connection_field 0 1

-- a chain through an In: root 1 sees the unit that root 0 filled in, and disagrees with the In behind it
unfoldable pub model_p : List ℕ
model_p =
    head_field ++ units ++ block_field 0 (1 ∷ 2 ∷ []) (0 ∷ [])
    ++ out_field 0 (real_with (unit_bit is kelvin ∷ [])) ++ in_field 1 (real_with []) ++ in_field 2 (real_with (unit_bit is celsius ∷ []))
    ++ connection_field 0 1 ++ connection_field 1 2

-- two pairs and a boundary output of the second: every root's cluster is filled, Integer ends too
unfoldable pub model_q : List ℕ
model_q =
    head_field ++ units ++ block_field 0 (1 ∷ 3 ∷ []) (0 ∷ 2 ∷ [])
    ++ out_field 0 (real_with (unit_bit is kelvin ∷ [])) ++ in_field 1 (real_with [])
    ++ out_field 2 (integer_with []) ++ in_field 3 (integer_with (max_bit is 7 ∷ []))
    ++ connection_field 0 1 ++ connection_field 2 3 ++ boundary_output_field 0 2 (integer_with (min_bit is 3 ∷ []))

-- ---- the image of 78 bytes, FORMAT 19: an In with the iri `u` and no block, which nothing drives
unfoldable pub image78 : List ℕ
image78 =
    0x01 ∷ 0x14 ∷ 0x00 ∷ 0x01 ∷ 0x00 ∷ 0x00 ∷ 0x00 ∷ 0x00 ∷ 0x00 ∷ 0x00 ∷ 0x80 ∷ 0xFF ∷ 0xFF ∷ 0xFF ∷ 0xFF ∷ 0xFF ∷ 0xFF ∷ 0xFF ∷ 0x7F ∷ 0x00 ∷ 0x00 ∷ 0x00 ∷ 0x00
    ∷ 0x02 ∷ 0x01 ∷ 0x00 ∷ 0x75 ∷ 0x04 ∷ 0x30 ∷ 0x00 ∷ replicate 48 0x00

-- ---- models of our own: the details that those before don't show

-- 1.1 to 1.4: a block with the id 7 has ports 9 and 8, which are no connectors; a second one, with the instance `u`, has the id 0; an In has the id 5, which is external
unfoldable pub model_r : List ℕ
model_r =
    head_field ++ text_field text_u ++ block_field 7 (0 ∷ 9 ∷ []) (8 ∷ []) ++ block_field_of 0 0 [] [] ++ in_field 5 (real_with []) ++ external_input_field 5

-- 2.1 to 2.3: boundary outputs of no connector, of an In whose type is another, of an Out whose type is another
unfoldable pub model_s : List ℕ
model_s =
    pair (text_field text_u) (real_with []) (real_with [])
    ++ boundary_output_field 0 9 (real_with []) ++ boundary_output_field 0 1 (integer_with []) ++ boundary_output_field 0 0 (integer_with [])

-- 4.3 and 4.4: an Enum drives an Enum of another class, and a Real Out
unfoldable pub model_t : List ℕ
model_t =
    head_field ++ block_field 0 (1 ∷ []) (0 ∷ 2 ∷ [])
    ++ connector_field_of enum_kind 3 dir_out 0 no_text (attributes enum_kind []) ++ connector_field_of enum_kind 4 dir_in 1 no_text (attributes enum_kind [])
    ++ out_field 2 (real_with []) ++ connection_field 0 1 ++ connection_field 0 2

-- 5.1 to 5.3: a Real Out from 5 to 3, the second boundary input an Integer from 2 to 1, a boundary output as the Out
unfoldable pub model_u : List ℕ
model_u =
    head_field ++ text_field text_u ++ block_field 0 [] (0 ∷ []) ++ out_field 0 (real_with (min_bit is five ∷ max_bit is three ∷ []))
    ++ boundary_input_field 0 (real_with []) ++ boundary_input_field 0 (integer_with (min_bit is 2 ∷ max_bit is 1 ∷ []))
    ++ boundary_output_field 0 0 (real_with (min_bit is five ∷ max_bit is three ∷ []))

-- 6.2, 6.4, 6.5 and 6.6: a Real pair that differs in quantity and max, an Integer pair that differs in both ends
unfoldable pub model_v : List ℕ
model_v =
    head_field ++ units ++ block_field 0 (1 ∷ 3 ∷ []) (0 ∷ 2 ∷ [])
    ++ out_field 0 (real_with (quantity_bit is kelvin ∷ max_bit is three ∷ [])) ++ in_field 1 (real_with (quantity_bit is celsius ∷ max_bit is five ∷ []))
    ++ out_field 2 (integer_with (min_bit is 1 ∷ max_bit is 5 ∷ [])) ++ in_field 3 (integer_with (min_bit is 2 ∷ max_bit is 7 ∷ []))
    ++ connection_field 0 1 ++ connection_field 2 3

-- 5.4, two groups, K before u by their bytes. Of `u`: two Ins whose iris are texts 1 and 0, only the second one external, and a boundary input from 20, three members;
-- of `K`: an Integer In up to 3 and a boundary input from 5
unfoldable pub model_w : List ℕ
model_w =
    head_field ++ text_field text_u ++ text_field text_u ++ text_field text_k ++ block_field 0 (0 ∷ 1 ∷ 2 ∷ []) []
    ++ connector_field dir_in 0 1 (real_with (min_bit is zero+ ∷ max_bit is ten ∷ [])) ++ connector_field dir_in 1 0 (real_with []) ++ connector_field dir_in 2 2 (integer_with (max_bit is 3 ∷ []))
    ++ external_input_field 1 ++ external_input_field 2 ++ boundary_input_field 0 (real_with (min_bit is twenty ∷ [])) ++ boundary_input_field 2 (integer_with (min_bit is 5 ∷ []))

unfoldable pub models : List (List ℕ)
models =
    model_a ∷ model_b ∷ model_c ∷ model_d ∷ model_e ∷ model_f ∷ model_g ∷ model_h ∷ model_i ∷ model_j ∷ model_k ∷ model_l ∷ model_m
    ∷ model_n ∷ model_o ∷ model_p ∷ model_q ∷ image78 ∷ model_r ∷ model_s ∷ model_t ∷ model_u ∷ model_v ∷ model_w ∷ []

-- all of these, opened: a claim that is `unfolding computed_examples` computes
unfoldable pub computed_examples : ℕ
unfolding computed_build units pair model_a model_b model_c model_d model_e model_f model_g model_h model_i model_j model_k model_l model_m model_n model_o model_p model_q image78 model_r model_s model_t model_u model_v model_w models
computed_examples = 0
