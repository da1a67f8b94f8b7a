-- What the members of a cluster (FORMAT 15) declare: the marks of its Real members together, and those of its Integer members.
use Rattle.std.specs.Prelude.{ℕ, ◌≤◌, ◌<◌, ◌≡◌, Bool, false, cond, List, length, get_or, eqb}
use Rattle.numbers.specs.Bytes.{bit}
use Rattle.oce_model.specs.Format.{real_kind, integer_kind}
use Rattle.unify.specs.Details.{kind_of, bit_of}
use Rattle.unify.specs.Slots.{Slots, slot}
use Rattle.unify.specs.declared.Detail.{Detail}

-- b has the marks of the first n members of kind k: a bit that isn't set in it is set in none of them
pub record Holds (k : ℕ) (σ : Slots) (js : List ℕ) (b n : ℕ) : Type 0 where
  pub each : (i p : ℕ) → i < n → (slot σ (get_or js i 0)).kind ≡ k → bit b p ≡ false → bit (slot σ (get_or js i 0)).marks p ≡ false

-- r has the bits of b, and those of marks if their kind is k
pub record TakenIn (k kind marks b r : ℕ) : Type 0 where
  pub old : (p : ℕ) → bit r p ≡ false → bit b p ≡ false
  pub new : (p : ℕ) → kind ≡ k → bit r p ≡ false → bit marks p ≡ false

-- the two have the marks of the first n members of their kinds
pub record Sees (σ : Slots) (js : List ℕ) (real integer n : ℕ) : Type 0 where
  pub within : n ≤ length js
  pub reals : Holds real_kind σ js real n
  pub integers : Holds integer_kind σ js integer n

-- detail d's bit is set in the marks of its kind
unfoldable pub shows : Detail → ℕ → ℕ → Bool
shows d real integer = bit (cond (eqb (kind_of d) real_kind) real integer) (bit_of d)
