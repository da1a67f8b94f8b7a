-- The range of attributes as code has them, by value.
use Rattle.std.specs.Prelude.{Bool, true, false, cond, ◌&&◌, ℤ, Float, Option, Some, None}
use Rattle.std.specs.Option.{unwrap_or}
use Rattle.std.specs.Float.Ieee.Scale.{finite}
use Rattle.numbers.specs.Bytes.{bit}
use Rattle.oce_model.specs.Format.{min_bit, max_bit}
use Rattle.oce_model.specs.declared.RealAttrs.{RealAttrs}
use Rattle.oce_model.specs.declared.IntAttrs.{IntAttrs}
use Rattle.crossed_bounds.specs.declared.Bounds.{Bounds}
use Rattle.crossed_bounds.specs.declared.Bounds.TheVariants.{Real, Integer}

-- an end that is marked as set, or none
abbrev pub end_read : Bool → Float → Option Float
end_read true x = Some x
end_read false x = None

-- an end that is unset, or finite
abbrev pub end_fine : Bool → Float → Bool
end_fine true x = finite x
end_fine false x = true

-- the range of Real attributes
unfoldable pub real_read : RealAttrs → Option Bounds
real_read a =
    let low = bit a.marks min_bit in
    let high = bit a.marks max_bit in
    cond (end_fine low a.min && end_fine high a.max) (Some (Real (end_read low a.min) (end_read high a.max))) None

-- the range of Integer attributes, by the head's defaults
unfoldable pub integer_read : IntAttrs → ℤ → ℤ → Option Bounds
integer_read a min max = Some (Integer (unwrap_or a.min min) (unwrap_or a.max max))
