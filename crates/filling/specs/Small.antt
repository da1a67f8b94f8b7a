-- What is asked of slots that are written into an image (FORMAT 17).
use Rattle.std.specs.Prelude.{ℕ, ◌<◌}
use Rattle.numbers.specs.Bytes.{byte_range}
use Rattle.unify.specs.Slots.{Slots, slot}

-- the kind and the marks of every slot are bytes
pub record Small (σ : Slots) : Type 0 where
  pub kinds : (j : ℕ) → (slot σ j).kind < byte_range
  pub marks : (j : ℕ) → (slot σ j).marks < byte_range
