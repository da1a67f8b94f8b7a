-- `note` meets its contract: the sections behind the tag before have begun as far as the loop has come.
use Prim.Native.Nat.{ℕ, ◌<◌}
use mathlib.Core.Path.{◌≡◌}
use mathlib.Core.Bool.{◌&&◌, cond}
use mathlib.Core.List.{List}
use lib.Dec.{ltb}
use lib.ListN.{length, get_or}
use Rattle.image_accept.specs.Passing.{none}
use Rattle.image_accept.specs.declared.Section.{Section}
use Rattle.image_accept.proofs.note.Given as goal

-- the sections of tags above p and below t begin at at
pub record Begins (at p t : ℕ) (sections later : List Section) : Type 0 where
  pub long : length later ≡ length sections
  pub each : (u : ℕ) → u < length sections → get_or later u none ≡ record { start = cond (ltb p u && ltb u t) at (get_or sections u none).start; count = (get_or sections u none).count }

abbrev pub invariant-loop-t : goal.invariant-loop-t
invariant-loop-t l = Begins l.f.at l.f.prev l.t l.fn.sections l.sections
