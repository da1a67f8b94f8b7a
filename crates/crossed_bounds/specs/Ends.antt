-- An end of a Real range, and the range of an attribute set, where there is one.
use Rattle.std.specs.Prelude.{Option, Float}
use Rattle.crossed_bounds.specs.declared.Bounds.{Bounds}

abbrev pub End : Type 0
End = Option Float

abbrev pub Range : Type 0
Range = Option Bounds
