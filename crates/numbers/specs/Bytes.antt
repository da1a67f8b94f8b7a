-- Numbers in bytes. All numbers of an image and of a report have the low byte first. FORMAT 2.
use Rattle.std.specs.Prelude.{ℕ, zero, suc, ◌+◌, ◌*◌, ◌/◌, ◌%◌, ◌^◌, Bool, List, [], ◌∷◌, eqb, ℤ, get_or, Float}
use Rattle.std.specs.Float.{binary64}
use Rattle.std.specs.Float.Ieee.{of_bits}
use Rattle.std.specs.Int.{w64}
use Rattle.std.proofs.Common.{to_z}

-- how many numbers a byte can hold
abbrev pub byte_range : ℕ
byte_range = 256

-- and how many two, four and eight bytes can
abbrev pub short_range : ℕ
short_range = 65536

abbrev pub word_range : ℕ
word_range = 4294967296

abbrev pub long_range : ℕ
long_range = 18446744073709551616

-- the most bytes that a number has
abbrev pub longest : ℕ
longest = 8

-- the byte at an offset, 0 past the end
abbrev pub byte : List ℕ → ℕ → ℕ
byte s at = get_or s at 0

-- the number that the w bytes at an offset stand for
unfoldable pub le_at : ℕ → List ℕ → ℕ → ℕ
le_at zero s at = 0
le_at (suc w) s at = byte s at + byte_range * le_at w s (at + 1)

-- two, four and eight bytes
abbrev pub le16 : List ℕ → ℕ → ℕ
le16 = le_at 2

abbrev pub le32 : List ℕ → ℕ → ℕ
le32 = le_at 4

abbrev pub le64 : List ℕ → ℕ → ℕ
le64 = le_at 8

-- the w bytes of a number
unfoldable pub le_bytes : ℕ → ℕ → List ℕ
le_bytes zero n = []
le_bytes (suc w) n = n % byte_range ∷ le_bytes w (n / byte_range)

-- bit j of a number is set
unfoldable pub bit : ℕ → ℕ → Bool
bit n j = eqb (n / 2 ^ j % 2) 1

-- a 64 bit pattern as a signed number, in two's complement as Rust's i64 is
unfoldable pub signed64 : ℕ → ℤ
signed64 b = to_z w64 b

-- a 64 bit pattern as a binary64 number of IEEE 754, as Rust's f64 is; every pattern of a NaN is the one NaN
unfoldable pub real64 : ℕ → Float
real64 b = of_bits binary64 b
