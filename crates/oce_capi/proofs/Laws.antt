-- Demand 3 of an equal answer.
use mathlib.Core.Path.{◌≡◌, subst}
use mathlib.Core.List.{List}
use Prim.Native.Nat.{ℕ}
use Rattle.outcome.specs.Answer.{Answer}
use Rattle.moved.specs.Moved.{Moved}

pub moved_by : {s f r : List ℕ} {a b : Answer} → a ≡ b → Moved s a f r → Moved s b f r
moved_by {s} {f} {r} e m = subst (λ (x : Answer). Moved s x f r) e m
