-- The order of the finite floats: total and transitive, and `lt` one way is `le` refused the other way.
use mathlib.Core.Path.{◌≡◌, refl, sym, ◌∙◌}
use mathlib.Core.Bool.{Bool, true, false, ◌&&◌, ◌||◌, false≢true, or-true}
use mathlib.Core.Logic.{inl, inr}
use Prim.Native.Nat.{ℕ, ◌+◌, ◌*◌, ◌≤◌, ◌<◌, zero-le}
use native.Mathlib.Nat.{zero-mul, le_trans, le_of_eq, mul_right_comm, mul-le-mul_right, le_of_mul-le-mul_right, eq-or-lt_of_le}
use native.Mathlib.Omega.{arith}
use lib.Dec.{ltb, eqb}
use lib.Ieee.{Float, nan, inf, fin, up, down, below, level, lt, eq, le}
use lib.Ieee.Fits.{down_pos}
use lib.Ieee.Scale.{finite}
use borrow.Author.Tests.{ltb-true, ltb-false, eqb-true, lt-ltb, le-ltb, eq-eqb}
use Rattle.std.specs.Float.{float_is_finite}
use Rattle.base.proofs.Lists.{and_parts}
use Rattle.numbers.proofs.Orders.{Ordered}

-- ---- two numbers with signs

-- ±a ≤ ±b
abbrev Le : Bool → ℕ → Bool → ℕ → Type 0
Le false a false b = a ≤ b
Le false a true b = (a ≡ 0) × (b ≡ 0)
Le true a false b = Unit {0}
Le true a true b = b ≤ a

-- either part of a test that passes
either : (a b : Bool) {P : Type 0} → (a ≡ true → P) → (b ≡ true → P) → (a || b) ≡ true → P
either true b f g h = f refl
either false b f g h = g h

to_le : (s : Bool) (a : ℕ) (t : Bool) (b : ℕ) → (below s a t b || level s a t b) ≡ true → Le s a t b
to_le false a false b h = either (ltb a b) (eqb a b && true) (λ p. omega (arith, ltb-true a b p)) (λ q. omega (arith, eqb-true a b (and_parts (eqb a b) true q).0)) h
to_le false a true b h =
    let p = and_parts (eqb a b) (eqb a 0) h in
    let e = eqb-true a b p.0 in
    let z = eqb-true a 0 p.1 in
    (z, sym e ∙ z)
to_le true a false b h = tt
to_le true a true b h = either (ltb b a) (eqb a b && true) (λ p. omega (arith, ltb-true b a p)) (λ q. omega (arith, eqb-true a b (and_parts (eqb a b) true q).0)) h

from_le : (s : Bool) (a : ℕ) (t : Bool) (b : ℕ) → Le s a t b → (below s a t b || level s a t b) ≡ true
from_le false a false b h = elim (eq-or-lt_of_le h) [ inl p ↦ rw (eq-eqb a b p) (or-true (ltb a b)) | inr q ↦ rw (lt-ltb a b q) ]
from_le false a true b h = rw (eq-eqb a b (h.0 ∙ sym h.1), eq-eqb a 0 h.0)
from_le true a false b h =
    elim (eq-or-lt_of_le (zero-le {n = a + b})) [
      | inl p ↦ rw (eq-eqb a b (omega arith), eq-eqb a 0 (omega arith)) (or-true (ltb 0 (a + b)))
      | inr q ↦ rw (lt-ltb 0 (a + b) q)
    ]
from_le true a true b h = elim (eq-or-lt_of_le h) [ inl p ↦ rw (eq-eqb a b (sym p)) (or-true (ltb b a)) | inr q ↦ rw (lt-ltb b a q) ]

other : (s : Bool) (a : ℕ) (t : Bool) (b : ℕ) → below s a t b ≡ false → Le t b s a
other false a false b h = ltb-false a b h
other false a true b h = tt
other true a false b h = let k = ltb-false 0 (a + b) h in (omega arith, omega arith)
other true a true b h = ltb-false b a h

not-both : (s : Bool) (a : ℕ) (t : Bool) (b : ℕ) → Le t b s a → below s a t b ≡ false
not-both false a false b k = le-ltb a b k
not-both false a true b k = refl
not-both true a false b k = le-ltb 0 (a + b) (let p = k.0 in let q = k.1 in omega arith)
not-both true a true b k = le-ltb b a k

-- ---- fractions A / a, B / b and C / c

core : (A B C a b c : ℕ) → 0 < b → A * b ≤ B * a → B * c ≤ C * b → A * c ≤ C * a
core A B C a b c P h k =
    le_of_mul-le-mul_right
    (le_trans (le_of_eq (mul_right_comm A c b))
    (le_trans (mul-le-mul_right c h)
    (le_trans (le_of_eq (mul_right_comm B a c)) (le_trans (mul-le-mul_right a k) (le_of_eq (mul_right_comm C b a))))))
    P

gone : (A b : ℕ) → 0 < b → A * b ≤ 0 → A ≡ 0
gone A b P h = let k : A ≤ 0 = le_of_mul-le-mul_right (rw zero-mul h) P in omega arith

still : (A c : ℕ) → A ≡ 0 → A * c ≡ 0
still A c e = rw (e, zero-mul)

chain : (s : Bool) (A a : ℕ) (t : Bool) (B b : ℕ) (u : Bool) (C c : ℕ) → 0 < a → 0 < b → 0 < c
    → Le s (A * b) t (B * a) → Le t (B * c) u (C * b) → Le s (A * c) u (C * a)
chain false A a false B b false C c P Q R h k = core A B C a b c Q h k
chain false A a false B b true C c P Q R h k =
    let z = gone B c R (le_of_eq k.0) in
    (still A c (gone A b Q (le_trans h (le_of_eq (still B a z)))), still C a (gone C b Q (le_of_eq k.1)))
chain false A a true B b false C c P Q R h k = le_trans (le_of_eq (still A c (gone A b Q (le_of_eq h.0)))) zero-le
chain false A a true B b true C c P Q R h k =
    let z = gone B a P (le_of_eq h.1) in
    (still A c (gone A b Q (le_of_eq h.0)), still C a (gone C b Q (le_trans k (le_of_eq (still B c z)))))
chain true A a false B b u C c P Q R h k = arm u k
  where
    arm : (u : Bool) → Le false (B * c) u (C * b) → Le true (A * c) u (C * a)
    arm false k = tt
    arm true k = le_trans (le_of_eq (still C a (gone C b Q (le_of_eq k.1)))) zero-le
chain true A a true B b false C c P Q R h k = tt
chain true A a true B b true C c P Q R h k = core C B A c b a Q k h

-- ---- floats

pub real-le-refl : (x : Float) → finite x ≡ true → le x x ≡ true
unfolding le
real-le-refl nan p = absurd (false≢true p)
real-le-refl (inf s) p = absurd (false≢true p)
real-le-refl (fin s m e) p = from_le s (m * up e * down e) s (m * up e * down e) (self s (m * up e * down e))
  where
    self : (s : Bool) (a : ℕ) → Le s a s a
    self false a = omega arith
    self true a = omega arith

pub real-lt-le : (x y : Float) → lt x y ≡ true → le x y ≡ true
unfolding le
real-lt-le x y h = rw h

pub real-not-lt-le : (x y : Float) → lt y x ≡ false → finite x ≡ true → finite y ≡ true → le x y ≡ true
unfolding le lt eq
real-not-lt-le nan y h p q = absurd (false≢true p)
real-not-lt-le (inf s) y h p q = absurd (false≢true p)
real-not-lt-le (fin s m e) nan h p q = absurd (false≢true q)
real-not-lt-le (fin s m e) (inf t) h p q = absurd (false≢true q)
real-not-lt-le (fin s m e) (fin t n d) h p q =
    from_le s (m * up e * down d) t (n * up d * down e) (other t (n * up d * down e) s (m * up e * down d) h)

pub real-le-not-lt : (x y : Float) → le x y ≡ true → finite x ≡ true → finite y ≡ true → lt y x ≡ false
unfolding le lt eq
real-le-not-lt nan y h p q = absurd (false≢true p)
real-le-not-lt (inf s) y h p q = absurd (false≢true p)
real-le-not-lt (fin s m e) nan h p q = absurd (false≢true q)
real-le-not-lt (fin s m e) (inf t) h p q = absurd (false≢true q)
real-le-not-lt (fin s m e) (fin t n d) h p q =
    not-both t (n * up d * down e) s (m * up e * down d) (to_le s (m * up e * down d) t (n * up d * down e) h)

pub real-le-trans : (x y z : Float) → le x y ≡ true → le y z ≡ true → finite x ≡ true → finite y ≡ true → finite z ≡ true → le x z ≡ true
unfolding le lt eq
real-le-trans nan y z g h p q r = absurd (false≢true p)
real-le-trans (inf s) y z g h p q r = absurd (false≢true p)
real-le-trans (fin s m e) nan z g h p q r = absurd (false≢true q)
real-le-trans (fin s m e) (inf t) z g h p q r = absurd (false≢true q)
real-le-trans (fin s m e) (fin t n d) nan g h p q r = absurd (false≢true r)
real-le-trans (fin s m e) (fin t n d) (inf u) g h p q r = absurd (false≢true r)
real-le-trans (fin s m e) (fin t n d) (fin u k c) g h p q r =
    from_le s (m * up e * down c) u (k * up c * down e)
    (chain s (m * up e) (down e) t (n * up d) (down d) u (k * up c) (down c) (down_pos e) (down_pos d) (down_pos c)
    (to_le s (m * up e * down d) t (n * up d * down e) g) (to_le t (n * up d * down c) u (k * up c * down d) h))

-- finite by std's test
pub finite_std : (x : Float) → float_is_finite x ≡ finite x
unfolding float_is_finite
finite_std nan = refl
finite_std (inf s) = refl
finite_std (fin s m e) = refl

pub reals : Ordered finite lt le
reals = record {
  le_refl = real-le-refl;
  lt-le = real-lt-le;
  not-lt-le = real-not-lt-le;
  le_not_lt = real-le-not-lt;
  le_trans = real-le-trans;
}
