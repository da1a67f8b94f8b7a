-- The bits of a number: what setting one more does to each.
use Prim.Native.Nat.{ℕ, suc, ◌+◌, ◌-◌, ◌*◌, ◌/◌, ◌%◌, ◌<◌, ◌^◌}
use native.Mathlib.Nat.{add-div_right, add-mul-div_right, add-mul-mod_self_right, mod-lt, pow-suc, div-lt_iff_lt-mul}
use native.Mathlib.Decide.{dec_lt}
use native.Mathlib.Omega.{arith}
use mathlib.Core.Path.{◌≡◌, ap}
use mathlib.Core.Logic.{◌≢◌}
use mathlib.Core.Bool.{true, false}
use lib.Dec.{eqb}
use lib.Pow.{pow_pos, pow-add, shr-shr, shr_lt}
use borrow.Author.Tests.{eqb-false, eq-eqb}
use Rattle.numbers.specs.Bytes.{bit}

even : (b p : ℕ) → bit b p ≡ false → b / 2 ^ p % 2 ≡ 0
unfolding bit
even b p h =
    let n : b / 2 ^ p % 2 ≢ 1 = eqb-false (b / 2 ^ p % 2) 1 h in
    let l : b / 2 ^ p % 2 < 2 = mod-lt (b / 2 ^ p) (omega arith) in
    omega arith

next-half : (h : ℕ) → h % 2 ≡ 0 → (h + 1) / 2 ≡ h / 2
next-half h e = omega arith

pub bit-same : (b p : ℕ) → bit b p ≡ false → bit (b + 2 ^ p) p ≡ true
unfolding bit
bit-same b p h =
    let e : b / 2 ^ p % 2 ≡ 0 = even b p h in
    eq-eqb ((b + 2 ^ p) / 2 ^ p % 2) 1 (rw (add-div_right b (pow_pos p)) (omega arith))

low : (b q j : ℕ) → (b + 2 ^ (suc j + q)) / 2 ^ q % 2 ≡ b / 2 ^ q % 2
low b q j = rw (pow-add 2 (suc j) q, add-mul-div_right b (2 ^ suc j) (pow_pos q), pow-suc 2 j) (add-mul-mod_self_right (b / 2 ^ q) (2 ^ j) 2)

high : (b p j : ℕ) → bit b p ≡ false → (b + 2 ^ p) / 2 ^ (p + (1 + j)) ≡ b / 2 ^ (p + (1 + j))
high b p j h =
    rw (← (shr-shr (b + 2 ^ p) p (1 + j)), ← (shr-shr b p (1 + j)), add-div_right b (pow_pos p), ← (shr-shr (b / 2 ^ p + 1) 1 j), ← (shr-shr (b / 2 ^ p) 1 j), next-half (b / 2 ^ p) (even b p h))

pub bit-other : (b p q : ℕ) → bit b p ≡ false → q ≢ p → bit (b + 2 ^ p) q ≡ bit b q
unfolding bit
bit-other b p q h n = arm (dec_lt q p)
  where
    arm : Dec (q < p) → eqb ((b + 2 ^ p) / 2 ^ q % 2) 1 ≡ eqb (b / 2 ^ q % 2) 1
    arm (yes l) =
        let e : p ≡ suc (p - suc q) + q = omega arith in
        rw e (ap (λ x. eqb x 1) (low b q (p - suc q)))
    arm (no l) =
        let e : q ≡ p + (1 + (q - suc p)) = omega arith in
        rw e (ap (λ x. eqb (x % 2) 1) (high b p (q - suc p) h))

-- a number of w bits stays one
pub mark-fits : (w b p : ℕ) → b < 2 ^ w → p < w → bit b p ≡ false → b + 2 ^ p < 2 ^ w
mark-fits w b p l k h =
    let j = w - suc p in
    let e : suc j + p ≡ w = omega arith in
    let l' : b < 2 ^ (suc j + p) = rw e l in
    let a : b / 2 ^ p < 2 ^ suc j = shr_lt (suc j) p l' in
    let n : (b + 2 ^ p) / 2 ^ p < 2 ^ suc j = rw (add-div_right b (pow_pos p)) (omega (arith, even b p h, pow-suc 2 j)) in
    let m : b + 2 ^ p < 2 ^ suc j * 2 ^ p = (div-lt_iff_lt-mul {k = 2 ^ p} {x = b + 2 ^ p} {y = 2 ^ suc j} (pow_pos p)).0 n in
    rw (← e, pow-add 2 (suc j) p) m
