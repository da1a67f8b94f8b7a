-- Every definition of this crate and of those below it, opened: a claim that is `unfolding computed` computes.
use Rattle.std.specs.Prelude.{ℕ}
use Rattle.base.specs.Computed.{computed as computed_below}
use Rattle.numbers.specs.Bytes.{le_at, le_bytes, bit, signed64, real64}

unfoldable pub computed : ℕ
unfolding computed_below le_at le_bytes bit signed64 real64
computed = 0
