-- Every definition of this crate and of those below it, opened: a claim that is `unfolding computed` computes.
use Rattle.std.specs.Prelude.{ℕ}
use Rattle.base.specs.Lists.{each, steps, keep, any, all, tally, below, same}
use Rattle.base.specs.Buffers.{patch, starts_with}

unfoldable pub computed : ℕ
unfolding each steps keep any all tally below same patch starts_with
computed = 0
