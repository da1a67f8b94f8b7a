-- `Attrs::integer` meets its contract: an end whose bit is set is the one declared.
use mathlib.Core.Path.{◌≡◌, refl}
use mathlib.Core.Bool.{Bool, true, false}
use Prim.Native.Nat.{ℕ}
use lib.IntN.{ℤ}
use Rattle.std.specs.Prelude.{Option}
use Rattle.std.specs.Bool.{then_some}
use Rattle.std.specs.Option.{option_map}
use Rattle.std.proofs.Common.{rules}
use Rattle.numbers.specs.Bytes.{bit, signed64}
use Rattle.oce_model.specs.Attributes.{num, marked, declared_at, int_attrs}
use Rattle.oce_model.specs.declared.Attrs.{Attrs}
use Rattle.oce_model.proofs.Attrs.integer.Goals as goal

module _ (a : Attrs) (p : ℕ) {b : Bool} {v : ℤ} {o : Option ℤ} where
  end-declared : o ≡ then_some b v → b ≡ bit a.marks p → v ≡ signed64 (num a p) → o ≡ option_map signed64 (declared_at a p)
  unfolding declared_at
  end-declared e f g = rw (e, f, g) (arm (bit a.marks p) (num a p))
    where
      arm : (b : Bool) (v : ℕ) → then_some b (signed64 v) ≡ option_map signed64 (marked b v)
      arm true v = refl
      arm false v = refl

pub returns : goal.returns
unfolding int_attrs
returns c = search (end-declared, rules)
