-- Decimal numbers as bytes. FORMAT 8 and 19.
use Rattle.std.specs.Prelude.{ℕ, zero, suc, ◌+◌, ◌-◌, ◌*◌, ◌/◌, ◌%◌, cond, List, [], ◌∷◌, ◌++◌, ltb}

-- the base
abbrev pub ten : ℕ
ten = 10

-- `0` as a byte; the other digits follow it
abbrev pub digit_zero : ℕ
digit_zero = 0x30

-- the byte of a digit
abbrev pub digit : ℕ → ℕ
digit d = digit_zero + d

-- the last p digits of n, with no zeros in front; 0 is one digit
unfoldable pub digits_in : ℕ → ℕ → List ℕ
digits_in zero n = []
digits_in (suc p) n = cond (ltb n ten) [] (digits_in p (n / ten)) ++ (digit (n % ten) ∷ [])

-- a number of 32 bits has at most ten digits, one of 64 bits twenty, a byte three
abbrev pub most_digits : ℕ
most_digits = 10

abbrev pub most_wide_digits : ℕ
most_wide_digits = 20

abbrev pub most_byte_digits : ℕ
most_byte_digits = 3

-- a number of 32 bits
unfoldable pub decimal : ℕ → List ℕ
decimal n = digits_in most_digits n

-- a number of 64 bits: below 2 to the 32 the same
unfoldable pub wide_decimal : ℕ → List ℕ
wide_decimal n = digits_in most_wide_digits n

-- the number that digits stand for, behind those that stand for a
unfoldable pub value_of : ℕ → List ℕ → ℕ
value_of a [] = a
value_of a (d ∷ ds) = value_of (ten * a + (d - digit_zero)) ds
