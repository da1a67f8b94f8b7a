-- When an image is turned away: refusals 1 to 8, in their order, and at the end the answer. FORMAT 6.
use Rattle.std.specs.Prelude.{ℕ, zero, suc, ◌+◌, ◌*◌, Bool, cond, not, ◌&&◌, ◌||◌, false, List, length, eqb, leb, ltb}
use Rattle.std.specs.Prelude.{Option, Some, None}
use Rattle.base.specs.Lists.{any}
use Rattle.numbers.specs.Bytes.{le16, bit}
use Rattle.oce_model.specs.Format.{head_tag, text_tag, block_tag, connector_tag, boundary_input_tag, boundary_output_tag, highest_tag, most, longest_text, block_length, port_length, most_ports, fixed_length, shortest_image, longest_image, version, integer_kind, enum_kind, dir_out, no_text, quantity_bit, unit_bit, display_unit_bit, min_bit, max_bit, nominal_bit, unbounded_bit, unbounded_value_bit, connector_attrs, boundary_input_attrs, boundary_output_attrs, head_version_at, head_zeros_at}
use Rattle.oce_model.specs.Attributes.{Attrs, attrs_at, num}
use Rattle.oce_model.specs.Image.{Field, fields, stop, of_tag, first}
use Rattle.oce_model.specs.Texts.{is_text_byte, text_of}
use Rattle.oce_model.specs.declared.Refusal.{Refusal}
use Rattle.oce_model.specs.Model.{Connector, input_count_at, output_count_at, block_at, connector_at, boundary_input_at, boundary_output_at}

-- ---- 1 and 2: the whole image

-- 1: it is shorter or longer than an image may be
abbrev pub bad_size : List ℕ → Bool
bad_size s = ltb (length s) shortest_image || ltb longest_image (length s)

-- 2: a field runs past its end; the fields stop there
abbrev pub runs_past : List ℕ → Bool
runs_past s = ltb (stop s) (length s)

-- ---- 3: tags

-- a tag is 0, above the highest or below the one before, the first isn't the head's, or there is a second head; prev is the tag before, 0 for the first field
unfoldable pub tag_is_bad : ℕ → ℕ → Bool
tag_is_bad t prev = eqb t 0 || ltb highest_tag t || ltb t prev || cond (eqb prev 0) (not (eqb t head_tag)) (eqb t head_tag)

-- the same of a field
unfoldable pub bad_tag : Field → Bool
bad_tag f = tag_is_bad f.tag f.prev

-- ---- 4: lengths

-- a block's length isn't that of its ports, or it has too many inputs or outputs
unfoldable pub bad_block_length : List ℕ → Field → Bool
bad_block_length s f =
    not (eqb f.len (block_length + port_length * (input_count_at s f.at + output_count_at s f.at)))
    || ltb most_ports (input_count_at s f.at) || ltb most_ports (output_count_at s f.at)

-- a length isn't the one of its tag. FORMAT 3
unfoldable pub bad_length : List ℕ → Field → Bool
bad_length s f =
    cond (eqb f.tag text_tag) (ltb longest_text f.len)
    (cond (eqb f.tag block_tag) (bad_block_length s f)
    (not (eqb f.len (fixed_length f.tag))))

-- ---- 5: counts

-- as many fields of its tag as there may be stand before it
unfoldable pub too_many : Field → Bool
too_many f = leb (most f.tag) f.ord

-- ---- 6: contents. FORMAT 3 and 4

-- the head's version
abbrev pub version_at : List ℕ → ℕ → ℕ
version_at s at = le16 s (at + head_version_at)

-- the head's two zero bytes
abbrev pub zero_bytes_at : List ℕ → ℕ → ℕ
zero_bytes_at s at = le16 s (at + head_zeros_at)

-- another version, or zero bytes that aren't
unfoldable pub bad_head : List ℕ → ℕ → Bool
bad_head s at = not (eqb (version_at s at) version) || not (eqb (zero_bytes_at s at) 0)

-- no such direction, no such type, or an enum class of another type than Enum
unfoldable pub bad_connector : Connector → Bool
bad_connector c =
    ltb dir_out c.dir || ltb enum_kind c.value_type
    || (not (eqb c.value_type enum_kind) && not (eqb c.enum_class 0))

-- bit p isn't set, and the number under it isn't 0
unfoldable pub stray : Attrs → ℕ → Bool
stray a p = not (bit a.marks p) && not (eqb (num a p) 0)

-- no such kind; a value of unbounded that isn't set; a bit that the kind doesn't have: Integer has min and max alone, the kinds behind it none; a number that isn't set
unfoldable pub bad_attrs : Attrs → Bool
bad_attrs a =
    let b = a.marks in
    ltb enum_kind a.kind || (bit b unbounded_value_bit && not (bit b unbounded_bit))
    || (eqb a.kind integer_kind && (bit b quantity_bit || bit b unit_bit || bit b display_unit_bit || bit b nominal_bit || bit b unbounded_bit))
    || (ltb integer_kind a.kind && not (eqb b 0))
    || stray a quantity_bit || stray a unit_bit || stray a display_unit_bit || stray a min_bit || stray a max_bit || stray a nominal_bit

-- where the attributes of a field stand: connectors, boundary inputs and boundary outputs have them
unfoldable pub attrs_offset : Field → Option ℕ
attrs_offset f =
    cond (eqb f.tag connector_tag) (Some (f.at + connector_attrs))
    (cond (eqb f.tag boundary_input_tag) (Some (f.at + boundary_input_attrs))
    (cond (eqb f.tag boundary_output_tag) (Some (f.at + boundary_output_attrs)) None))

-- a test of the attributes at an offset, if there are any
abbrev pub on_attrs : List ℕ → (Attrs → Bool) → Option ℕ → Bool
on_attrs s p None = false
on_attrs s p (Some at) = p (attrs_at s at)

-- a field's contents break a rule of theirs
unfoldable pub bad_contents : List ℕ → Field → Bool
bad_contents s f =
    (eqb f.tag head_tag && bad_head s f.at)
    || (eqb f.tag connector_tag && bad_connector (connector_at s f.at))
    || on_attrs s bad_attrs (attrs_offset f)

-- ---- 7: texts

-- a text has a byte that no text may hold
unfoldable pub bad_text : List ℕ → Field → Bool
bad_text s f = eqb f.tag text_tag && any (λ b. not (is_text_byte b)) (text_of s f)

-- ---- 8: text numbers; n is the number of texts

-- a text number of attributes that is set is no text's
unfoldable pub bad_text_numbers : ℕ → Attrs → Bool
bad_text_numbers n a =
    (bit a.marks quantity_bit && leb n (num a quantity_bit))
    || (bit a.marks unit_bit && leb n (num a unit_bit))
    || (bit a.marks display_unit_bit && leb n (num a display_unit_bit))

-- a text number that may be none is no text's
unfoldable pub bad_or_none : ℕ → ℕ → Bool
bad_or_none n t = leb n t && not (eqb t no_text)

-- a field has a text number in use that is no text's, and isn't an allowed none
unfoldable pub bad_reference : ℕ → List ℕ → Field → Bool
bad_reference n s f =
    (eqb f.tag block_tag && bad_or_none n (block_at s f.at).instance_iri)
    || (eqb f.tag connector_tag && bad_or_none n (connector_at s f.at).iri)
    || (eqb f.tag boundary_input_tag && leb n (boundary_input_at s f.at).iri)
    || (eqb f.tag boundary_output_tag && leb n (boundary_output_at s f.at).iri)
    || on_attrs s (bad_text_numbers n) (attrs_offset f)

-- ---- the answer

-- the field is at fault under refusal k, for k from 3 to 8
unfoldable pub fault : ℕ → ℕ → List ℕ → Field → Bool
fault k n s f =
    cond (eqb k 3) (bad_tag f) (cond (eqb k 4) (bad_length s f) (cond (eqb k 5) (too_many f)
    (cond (eqb k 6) (bad_contents s f) (cond (eqb k 7) (bad_text s f) (bad_reference n s f)))))

-- refusal k at an offset, or else what comes behind it
abbrev pub refused_at : ℕ → Option ℕ → Option Refusal → Option Refusal
refused_at k None r = r
refused_at k (Some at) r = Some (record { number = k; offset = at })

-- of the refusals from k on, j of them, the lowest that applies anywhere, with the offset of the first field at fault under it
unfoldable pub refusals_from : ℕ → ℕ → List ℕ → List Field → Option Refusal
refusals_from zero k s fs = None
refusals_from (suc j) k s fs =
    let rest = refusals_from j (suc k) s fs in
    refused_at k (first (fault k (length (of_tag text_tag fs)) s) fs) rest

-- the lowest refusal that applies: 1, 2, or one of 3 to 8
unfoldable pub refusal : List ℕ → Option Refusal
refusal s =
    let rest = refusals_from 6 3 s (fields s) in
    cond (bad_size s) (Some (record { number = 1; offset = 0 }))
    (cond (runs_past s) (Some (record { number = 2; offset = stop s })) rest)
