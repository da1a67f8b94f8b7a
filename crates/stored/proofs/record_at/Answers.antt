-- `stored::record_at` meets its contract: a record that doesn't fit is none, by whichever test finds it.
use Prim.Native.Nat.{ℕ, ◌+◌, ◌≤◌}
use mathlib.Core.Bool.{Bool, true, false, ◌&&◌}
use mathlib.Core.List.{List}
use mathlib.Core.Path.{◌≡◌, refl, sym, ◌∙◌}
use native.Mathlib.Omega.{arith}
use lib.Dec.{leb}
use lib.ListN.{length}
use borrow.Author.Tests.{le-leb, leb-true}
use Rattle.std.specs.Prelude.{Some, None}
use Rattle.numbers.specs.Bytes.{le32}
use Rattle.stored.specs.declared.Answer.{Answer}
use Rattle.stored.specs.Files.{answer_length, answer_at, placed, fits, record_at}
use Rattle.stored.proofs.record_at.Goals as goal

not-both : (a b c d : ℕ) → (a ≤ b → c ≤ d → ⊥) → (leb a b && leb c d) ≡ false
not-both a b c d h = arm (leb a b) (leb c d) refl refl
  where
    arm : (x y : Bool) → leb a b ≡ x → leb c d ≡ y → (x && y) ≡ false
    arm false y e f = refl
    arm true false e f = refl
    arm true true e f = absurd (h (leb-true a b e) (leb-true c d f))

module _ (s : List ℕ) (at : ℕ) where
  unfit : (at + 4 + le32 s at ≤ length s → 4 + le32 s (at + 4) + answer_length ≤ le32 s at → ⊥) → None ≡ record_at s at
  unfolding record_at fits
  unfit h = sym (rw (not-both (at + 4 + le32 s at) (length s) (4 + le32 s (at + 4) + answer_length) (le32 s at) h))

  whole : {rest len : ℕ} {a : Answer} → rest ≡ le32 s at → len ≡ le32 s (at + 4) → a ≡ answer_at s (at + 8 + len) → at + 4 + rest ≤ length s → 4 + len + answer_length ≤ rest
      → Some (record { image = at + 8; len = len; answer = a; end = at + 4 + rest }) ≡ record_at s at
  unfolding record_at fits placed
  whole {rest} {len} e f g h k = sym (rw (← e, ← f, le-leb (at + 4 + rest) (length s) h, le-leb (4 + len + answer_length) rest k, ← g))

pub returns-in_err-checked_sub : goal.returns-in_err-checked_sub
returns-in_err-checked_sub c = c.from_residual.ensures ∙ unfit _ _ (λ a b. c.in_err-checked_sub.ensures (omega arith))

pub returns-in_err-left : goal.returns-in_err-left
returns-in_err-left c =
    let l = c.in_ok-checked_sub.ensures in
    c.from_residual-in_err-left.ensures ∙ unfit _ _ (λ a b. c.in_err-left.ensures (omega (arith, l.0, l.1)))

pub returns-then-left-rest : goal.returns-then-left-rest
returns-then-left-rest c =
    let l = c.in_ok-checked_sub.ensures in
    let m = c.in_ok-left.ensures in
    let r = c.at32-rest.ensures.0 in
    unfit _ _ (λ a b. omega (arith, l.0, l.1, m.0, m.1))

pub returns-then-rest-len : goal.returns-then-rest-len
returns-then-rest-len c = let r = c.at32-rest.ensures.0 in let n = c.at32-len.ensures.0 in unfit _ _ (λ a b. omega arith)

pub returns : goal.returns
returns c =
    let l = c.in_ok-checked_sub.ensures in
    let m = c.in_ok-left.ensures in
    whole _ _ c.at32-rest.ensures.0 c.at32-len.ensures.0 c.answer_at.ensures (omega (arith, l.0, l.1, m.0, m.1)) (omega arith)
