-- What laws take of an image besides its fields: its elements are bytes.
use Prim.Native.Nat.{ℕ, ◌<◌}
use mathlib.Core.List.{List}
use Rattle.numbers.specs.Bytes.{byte, byte_range}

-- every element of a list is a byte, as those of a slice of u8 are
abbrev pub Bytes : List ℕ → Type 0
Bytes s = (i : ℕ) → byte s i < byte_range
