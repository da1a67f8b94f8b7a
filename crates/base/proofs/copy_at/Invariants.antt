-- `base::copy_at` meets its contract: after i turns i bytes are pasted.
use mathlib.Core.Path.{◌≡◌}
use mathlib.Core.List.{List}
use Prim.Native.Nat.{ℕ, ◌≤◌}
use lib.ListN.{length}
use lib.Seq.{paste}
use Rattle.base.proofs.copy_at.Given as goal

pub record Copied (dst₀ : List ℕ) (at : ℕ) (src dst : List ℕ) (i : ℕ) : Type 0 where
  pub within : i ≤ length src
  pub pasted : dst ≡ paste dst₀ at src i
  pub long : length dst ≡ length dst₀

abbrev pub invariant-loop-i : goal.invariant-loop-i
invariant-loop-i l = Copied l.initial.dst l.at l.src l.dst l.i
