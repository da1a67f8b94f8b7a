-- The range of an attribute set, and when it is crossed. FORMAT 13; the Rust's `Bounds`.
use Rattle.std.specs.Prelude.{ℕ, Bool, true, false, cond, ◌&&◌, List, [], ◌∷◌, eqb, ℤ, Option, Some, None}
use Rattle.std.specs.Int.Signed.{lt_z}
use Rattle.std.specs.Float.Ieee.{lt}
use Rattle.std.specs.Float.Ieee.Scale.{finite}
use Rattle.numbers.specs.Bytes.{signed64, real64}
use Rattle.oce_model.specs.Format.{real_kind, integer_kind, min_bit, max_bit}
use Rattle.oce_model.specs.Attributes.{declared_at}
use Rattle.oce_model.specs.declared.Attrs.{Attrs}
use Rattle.oce_model.specs.Model.{Defaults}
use Rattle.crossed_bounds.specs.Ends.{End, Range}
use Rattle.crossed_bounds.specs.declared.Bounds.{Bounds}
use Rattle.crossed_bounds.specs.declared.Bounds.TheVariants.{Real, Integer}

-- ---- `Bounds::of`

-- a Real end is unset or finite
unfoldable pub finite_end : Option ℕ → Bool
finite_end None = true
finite_end (Some b) = finite (real64 b)

-- an end of a Real range
unfoldable pub real_end : Option ℕ → End
real_end None = None
real_end (Some b) = Some (real64 b)

-- a Real range, from what is declared for min and max: with an end that isn't finite there is none
unfoldable pub real_range : Option ℕ → Option ℕ → Range
real_range lo hi = cond (finite_end lo && finite_end hi) (Some (Real (real_end lo) (real_end hi))) None

-- an end of an Integer range, or else its default: `IntAttrs::min` and `max`
abbrev pub or_default : Option ℕ → ℤ → ℤ
or_default None d = d
or_default (Some b) d = signed64 b

-- an Integer range; an end that isn't set is the head's default
unfoldable pub integer_range : Defaults → Option ℕ → Option ℕ → Range
integer_range d lo hi = Some (Integer (or_default lo d.min) (or_default hi d.max))

-- the range of an attribute set; Boolean, String and Enum have none
unfoldable pub range_of : Defaults → Attrs → Range
range_of d a =
    cond (eqb a.kind real_kind) (real_range (declared_at a min_bit) (declared_at a max_bit))
    (cond (eqb a.kind integer_kind) (integer_range d (declared_at a min_bit) (declared_at a max_bit)) None)

-- ---- `Bounds::crossed`

-- min is above max, by number; an end that isn't set crosses nothing
unfoldable pub crossed_ends : End → End → Bool
crossed_ends None hi = false
crossed_ends (Some a) None = false
crossed_ends (Some a) (Some b) = lt b a

-- the same of a range of either kind
unfoldable pub crossed_bounds : Bounds → Bool
crossed_bounds (Real lo hi) = crossed_ends lo hi
crossed_bounds (Integer lo hi) = lt_z hi lo

-- there is a range, and it is crossed
unfoldable pub crossed : Range → Bool
crossed None = false
crossed (Some b) = crossed_bounds b

-- ---- `Bounds::intersect` and `tighter`

-- of two Real mins the tighter one, of two equal ones the first
unfoldable pub higher : End → End → End
higher None y = y
higher (Some a) None = Some a
higher (Some a) (Some b) = Some (cond (lt a b) b a)

-- of two Real maxes likewise
unfoldable pub lower : End → End → End
lower None y = y
lower (Some a) None = Some a
lower (Some a) (Some b) = Some (cond (lt b a) b a)

-- of two Integer mins likewise
unfoldable pub higher_integer : ℤ → ℤ → ℤ
higher_integer a b = cond (lt_z a b) b a

-- of two Integer maxes likewise
unfoldable pub lower_integer : ℤ → ℤ → ℤ
lower_integer a b = cond (lt_z b a) b a

-- the intersection of two ranges of one kind; two kinds have none
unfoldable pub intersect : Bounds → Bounds → Range
intersect (Real a b) (Real c d) = Some (Real (higher a c) (lower b d))
intersect (Real a b) (Integer c d) = None
intersect (Integer a b) (Real c d) = None
intersect (Integer a b) (Integer c d) = Some (Integer (higher_integer a c) (lower_integer b d))

-- ---- the combined range of several members: the `try_fold` of `check_combined_input_domains`

-- a member's range, if it isn't crossed
unfoldable pub uncrossed : Range → Range
uncrossed None = None
uncrossed (Some b) = cond (crossed_bounds b) None (Some b)

-- the intersection of a range and one that may be absent
abbrev pub intersect_with : Bounds → Range → Range
intersect_with b None = None
intersect_with b (Some c) = intersect b c

-- what is kept of the members before, and one member more. Once None it stays so: all have to have an uncrossed range, and of one kind
unfoldable pub take_in : Range → Range → Range
take_in None r = None
take_in (Some b) r = intersect_with b (uncrossed r)

-- the same with more members
unfoldable pub take_in_all : Range → List Range → Range
take_in_all kept [] = kept
take_in_all kept (r ∷ rs) = take_in_all (take_in kept r) rs

-- the combined range of a list of members
unfoldable pub combined : List Range → Range
combined [] = None
combined (r ∷ rs) = take_in_all (uncrossed r) rs
