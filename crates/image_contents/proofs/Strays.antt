-- Numbers under bits that aren't set, taken together bit by bit.
use Prim.Native.Nat.{ℕ}
use native.Mathlib.Decide.{ℕ_discrete}
use native.Mathlib.Omega.{arith}
use mathlib.Core.Path.{◌≡◌, refl, ◌∙◌}
use mathlib.Core.Bool.{Bool, true, false, cond, not, ◌&&◌, ◌||◌}
use lib.Bits.{bit_or, or_zero_l, or_add_and, and_le_r}
use lib.Dec.{eqb}
use borrow.Author.Tests.{ne_eqb}
use Rattle.numbers.specs.Bytes.{bit}
use Rattle.image_contents.specs.Marks.{stray_part}
use Rattle.oce_model.specs.Attributes.{num}
use Rattle.oce_model.specs.Refusals.{stray}
use Rattle.oce_model.specs.declared.Attrs.{Attrs}

-- two numbers together are 0 if each is
or-nonzero : (a b : ℕ) → not (eqb (bit_or a b) 0) ≡ (not (eqb a 0) || not (eqb b 0))
or-nonzero a b = arm (ℕ_discrete a 0)
  where
    arm : Dec (a ≡ 0) → not (eqb (bit_or a b) 0) ≡ (not (eqb a 0) || not (eqb b 0))
    arm (yes e) = rw (e, or_zero_l b)
    arm (no n) =
        let some : bit_or a b ≡ 0 → ⊥ = λ z. omega (arith, or_add_and a b, and_le_r a b) in
        rw (ne_eqb (bit_or a b) 0 some, ne_eqb a 0 n)

pub strays-more : (x y : ℕ) {p q : Bool} → not (eqb x 0) ≡ p → not (eqb y 0) ≡ q → not (eqb (bit_or x y) 0) ≡ (p || q)
strays-more x y e f = or-nonzero x y ∙ rw (e, f)

pub strays-one : (a : Attrs) (p : ℕ) {y : ℕ} → y ≡ stray_part a p → not (eqb y 0) ≡ stray a p
unfolding stray
strays-one a p e = rw e (arm (bit a.marks p) (num a p))
  where
    arm : (t : Bool) (x : ℕ) → not (eqb (cond t 0 x) 0) ≡ (not t && not (eqb x 0))
    arm true x = refl
    arm false x = refl
