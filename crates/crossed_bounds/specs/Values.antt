-- Values, and which of them are of a type and lie inside a range. FORMAT 5 and 13.
use Rattle.std.specs.Prelude.{None, Some, ℕ, ◌^◌, Bool, true, false, ◌&&◌, List, eqb, ltb, ℤ, Float}
use Rattle.std.specs.Int.Signed.{mag, le_z}
use Rattle.std.specs.Float.{binary64}
use Rattle.std.specs.Float.Ieee.{le, fits}
use Rattle.std.specs.Float.Ieee.Scale.{finite}
use Rattle.base.specs.Lists.{all}
use Rattle.numbers.specs.Bytes.{byte_range}
use Rattle.oce_model.specs.Format.{real_kind, integer_kind, boolean_kind, string_kind, enum_kind}
use Rattle.oce_model.specs.Model.{Connector}
use Rattle.crossed_bounds.specs.Ends.{End, Range}
use Rattle.crossed_bounds.specs.declared.Bounds.{Bounds}
use Rattle.crossed_bounds.specs.declared.Bounds.TheVariants.{Real, Integer}

-- the Rust's `Value`, before its type is asked
pub data Datum : Type 0 where
  real : Float → Datum
  integer : ℤ → Datum
  boolean : Bool → Datum
  string : List ℕ → Datum
  enum : ℕ → ℕ → Datum

-- an integer is one of 64 bits, signed
abbrev pub fits64 : ℤ → Bool
fits64 z = ltb (mag z) (2 ^ 63)

-- the value is of a kind; of an Enum the class is not asked
unfoldable pub of_kind : ℕ → Datum → Bool
of_kind k (real x) = eqb k real_kind && finite x && fits binary64 x
of_kind k (integer z) = eqb k integer_kind && fits64 z
of_kind k (boolean b) = eqb k boolean_kind
of_kind k (string bs) = eqb k string_kind && all (λ b. ltb b byte_range) bs
of_kind k (enum class n) = eqb k enum_kind && ltb n (2 ^ 32)

-- an Enum's value has the class; other values have none
abbrev pub class_is : ℕ → Datum → Bool
class_is c (real x) = true
class_is c (integer z) = true
class_is c (boolean b) = true
class_is c (string bs) = true
class_is c (enum class n) = eqb class c

-- the value is of a connector's type
unfoldable pub of_type : Connector → Datum → Bool
of_type c v = of_kind c.value_type v && class_is c.enum_class v

-- by number: a Real value is not below a lower end
unfoldable pub not_below : End → Float → Bool
not_below None x = true
not_below (Some a) x = le a x

-- and not above an upper end
unfoldable pub not_above : End → Float → Bool
not_above None x = true
not_above (Some a) x = le x a

-- the value is of the range's kind, and neither below min nor above max
unfoldable pub inside_bounds : Bounds → Datum → Bool
inside_bounds (Real lo hi) (real x) = not_below lo x && not_above hi x
inside_bounds (Real lo hi) (integer z) = false
inside_bounds (Real lo hi) (boolean b) = false
inside_bounds (Real lo hi) (string bs) = false
inside_bounds (Real lo hi) (enum class n) = false
inside_bounds (Integer lo hi) (real x) = false
inside_bounds (Integer lo hi) (integer z) = le_z lo z && le_z z hi
inside_bounds (Integer lo hi) (boolean b) = false
inside_bounds (Integer lo hi) (string bs) = false
inside_bounds (Integer lo hi) (enum class n) = false

-- the value lies inside a range; where there is none every value does
unfoldable pub inside : Range → Datum → Bool
inside None v = true
inside (Some b) v = inside_bounds b v
