-- Every definition of this crate and of those below it, opened: a claim that is `unfolding computed` computes.
use Rattle.std.specs.Prelude.{ℕ}
use Rattle.outcome.specs.Computed.{computed as computed_below}
use Rattle.moved.specs.Moved.{connected, chosen, arrivals, delivered, alike_units}

unfoldable pub computed : ℕ
unfolding computed_below connected chosen arrivals delivered alike_units
computed = 0
