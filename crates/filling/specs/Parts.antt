-- The bytes of attributes (FORMAT 4) in three parts, as they are written one behind the other.
use Rattle.std.specs.Prelude.{ℕ, List, [], ◌∷◌, ◌++◌}
use Rattle.numbers.specs.Bytes.{le_bytes}
use Rattle.oce_model.specs.Format.{quantity_bit, unit_bit, display_unit_bit, min_bit, max_bit, nominal_bit}
use Rattle.oce_model.specs.Attributes.{num}
use Rattle.oce_model.specs.declared.Attrs.{Attrs}

-- kind and marks
unfoldable pub lead_bytes : Attrs → List ℕ
lead_bytes a = a.kind ∷ a.marks ∷ []

-- three text numbers
unfoldable pub text_bytes : Attrs → List ℕ
text_bytes a = le_bytes 2 (num a quantity_bit) ++ le_bytes 2 (num a unit_bit) ++ le_bytes 2 (num a display_unit_bit)

-- three numbers of 64 bits
unfoldable pub end_bytes : Attrs → List ℕ
end_bytes a = le_bytes 8 (num a min_bit) ++ le_bytes 8 (num a max_bit) ++ le_bytes 8 (num a nominal_bit)
