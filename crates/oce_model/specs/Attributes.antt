-- Attributes: 32 bytes of the image, and what they declare. FORMAT 4; the Rust's `Attrs`, `RealAttrs` and `IntAttrs`.
use Rattle.std.specs.Prelude.{ℕ, ◌+◌, ◌^◌, Bool, true, false, List, [], ◌∷◌, ◌++◌, get_or, set}
use Rattle.std.specs.Prelude.{Option, Some, None}
use Rattle.std.specs.Option.{option_map}
use Rattle.numbers.specs.Bytes.{byte, le16, le64, le_bytes, bit, signed64, real64}
use Rattle.oce_model.specs.Format.{quantity_bit, unit_bit, display_unit_bit, min_bit, max_bit, nominal_bit, attrs_marks_at, attrs_quantity_at, attrs_unit_at, attrs_display_unit_at, attrs_min_at, attrs_max_at, attrs_nominal_at}
use Rattle.oce_model.specs.declared.RealAttrs.{RealAttrs}
use Rattle.oce_model.specs.declared.IntAttrs.{IntAttrs}
-- `marks` is the byte of set bits. `nums` has a number for each of the bits 0 to 5: quantity, unit, display unit (text numbers), min, max, nominal (64 bit patterns).
pub use Rattle.oce_model.specs.declared.Attrs.{Attrs}

-- nothing is declared
unfoldable pub no_attrs : Attrs
no_attrs = record { kind = 0; marks = 0; nums = [] }

-- the attributes at an offset
unfoldable pub attrs_at : List ℕ → ℕ → Attrs
attrs_at s at = record {
  kind = byte s at;
  marks = byte s (at + attrs_marks_at);
  nums =
      le16 s (at + attrs_quantity_at) ∷ le16 s (at + attrs_unit_at) ∷ le16 s (at + attrs_display_unit_at)
      ∷ le64 s (at + attrs_min_at) ∷ le64 s (at + attrs_max_at) ∷ le64 s (at + attrs_nominal_at) ∷ [];
}

-- the number for bit p
abbrev pub num : Attrs → ℕ → ℕ
num a p = get_or a.nums p 0

-- their bytes
unfoldable pub attrs_bytes : Attrs → List ℕ
attrs_bytes a =
    a.kind ∷ a.marks ∷ le_bytes 2 (num a quantity_bit) ++ le_bytes 2 (num a unit_bit) ++ le_bytes 2 (num a display_unit_bit)
    ++ le_bytes 8 (num a min_bit) ++ le_bytes 8 (num a max_bit) ++ le_bytes 8 (num a nominal_bit)

-- a number, if its bit is set
abbrev pub marked : Bool → ℕ → Option ℕ
marked true v = Some v
marked false v = None

-- what is declared under bit p: its number, if the bit is set
unfoldable pub declared_at : Attrs → ℕ → Option ℕ
declared_at a p = marked (bit a.marks p) (num a p)

-- the number v declared under bit p, where nothing was
unfoldable pub declare_at : Attrs → ℕ → ℕ → Attrs
declare_at a p v = record { kind = a.kind; marks = a.marks + 2 ^ p; nums = set a.nums p v }

-- Real attributes: min, max and nominal as binary64 numbers, with the text numbers beside them. FORMAT 4; the Rust's `RealAttrs`
unfoldable pub real_attrs : Attrs → RealAttrs
real_attrs a = record {
  marks = a.marks;
  quantity = num a quantity_bit;
  unit = num a unit_bit;
  display = num a display_unit_bit;
  min = real64 (num a min_bit);
  max = real64 (num a max_bit);
  nominal = real64 (num a nominal_bit);
}

-- Integer attributes, the Rust's `IntAttrs`: the ends that are declared, as signed numbers
unfoldable pub int_attrs : Attrs → IntAttrs
int_attrs a = record { min = option_map signed64 (declared_at a min_bit); max = option_map signed64 (declared_at a max_bit) }
