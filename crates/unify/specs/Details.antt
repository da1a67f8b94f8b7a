-- The details that rule 6 settles over a cluster: what the table of FORMAT 16 says of each.
use Rattle.std.specs.Prelude.{ℕ, Bool, true, false, List, [], ◌∷◌}
use Rattle.oce_model.specs.Format.{real_kind, integer_kind, quantity_bit, unit_bit, display_unit_bit, min_bit, max_bit}
use Rattle.unify.specs.declared.Detail.{Detail}
use Rattle.unify.specs.declared.Detail.TheVariants.{Unit, Quantity, RealMin, RealMax, IntegerMin, IntegerMax, DisplayUnit}

-- Its number in a report.
unfoldable pub detail_number : Detail → ℕ
detail_number Unit = 1
detail_number Quantity = 2
detail_number RealMin = 3
detail_number RealMax = 4
detail_number IntegerMin = 5
detail_number IntegerMax = 6
detail_number DisplayUnit = 7

-- The kind that it is an attribute of.
unfoldable pub kind_of : Detail → ℕ
kind_of Unit = real_kind
kind_of Quantity = real_kind
kind_of RealMin = real_kind
kind_of RealMax = real_kind
kind_of IntegerMin = integer_kind
kind_of IntegerMax = integer_kind
kind_of DisplayUnit = real_kind

-- The bit that marks it there.
unfoldable pub bit_of : Detail → ℕ
bit_of Unit = unit_bit
bit_of Quantity = quantity_bit
bit_of RealMin = min_bit
bit_of RealMax = max_bit
bit_of IntegerMin = min_bit
bit_of IntegerMax = max_bit
bit_of DisplayUnit = display_unit_bit

-- Its values are texts, by their numbers; those of the others are ends, by their 64 bits.
unfoldable pub is_text : Detail → Bool
is_text Unit = true
is_text Quantity = true
is_text RealMin = false
is_text RealMax = false
is_text IntegerMin = false
is_text IntegerMax = false
is_text DisplayUnit = true

-- Those that are filled: 6.1 to 6.6.
unfoldable pub unified_details : List Detail
unified_details = Unit ∷ Quantity ∷ RealMin ∷ RealMax ∷ IntegerMin ∷ IntegerMax ∷ []
