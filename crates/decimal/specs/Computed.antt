-- Every definition of this crate, opened: a claim that is `unfolding computed` computes.
use Rattle.std.specs.Prelude.{ℕ}
use Rattle.decimal.specs.Decimal.{digits_in, decimal, wide_decimal, value_of}

unfoldable pub computed : ℕ
unfolding digits_in decimal wide_decimal value_of
computed = 0
