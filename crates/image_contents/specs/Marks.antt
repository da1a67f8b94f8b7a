-- The parts of refusals 6 and 8 that go by the byte of set bits. FORMAT 4 and 6.
use Rattle.std.specs.Prelude.{ℕ, Bool, cond, not, ◌&&◌, ◌||◌, eqb, ltb, leb}
use Rattle.numbers.specs.Bytes.{bit}
use Rattle.oce_model.specs.Format.{dir_out, integer_kind, enum_kind, quantity_bit, unit_bit, display_unit_bit, min_bit, max_bit, nominal_bit, unbounded_bit, unbounded_value_bit}
use Rattle.oce_model.specs.Attributes.{num}
use Rattle.oce_model.specs.Refusals.{stray}
use Rattle.oce_model.specs.declared.Attrs.{Attrs}

-- a bit that no Integer sets
abbrev pub not_of_integer : ℕ → Bool
not_of_integer m = bit m quantity_bit || bit m unit_bit || bit m display_unit_bit || bit m nominal_bit || bit m unbounded_bit

-- the kind is none, bit 7 stands without bit 6, or the set bits are not the kind's
abbrev pub bad_marks : Attrs → Bool
bad_marks a =
    ltb enum_kind a.kind || (bit a.marks unbounded_value_bit && not (bit a.marks unbounded_bit))
    || (eqb a.kind integer_kind && not_of_integer a.marks) || (ltb integer_kind a.kind && not (eqb a.marks 0))

-- the number under bit p, if the bit isn't set, or 0
abbrev pub stray_part : Attrs → ℕ → ℕ
stray_part a p = cond (bit a.marks p) 0 (num a p)

-- one of the numbers stands under a bit that isn't set, and isn't 0
abbrev pub straying : Attrs → Bool
straying a = stray a quantity_bit || stray a unit_bit || stray a display_unit_bit || stray a min_bit || stray a max_bit || stray a nominal_bit

-- bit p is set, and the number under it is no text's
abbrev pub bad_text_number : ℕ → Attrs → ℕ → Bool
bad_text_number n a p = bit a.marks p && leb n (num a p)

-- a connector's direction, type or enum class is none
abbrev pub bad_type : ℕ → ℕ → ℕ → Bool
bad_type d t c = ltb dir_out d || ltb enum_kind t || (not (eqb t enum_kind) && not (eqb c 0))
