-- The order of the integers: `lt` one way is `le` refused the other way, and `le` is transitive.
use mathlib.Core.Path.{◌≡◌, refl}
use mathlib.Core.Bool.{true, false, false≢true, true≢false}
use native.Mathlib.Omega.{arith}
use lib.IntN.{ℤ, pos, negsuc}
use lib.Signed.{lt_z, le_z}
use borrow.Author.Tests.{ltb-true, ltb-false, leb-true, le-ltb, le-leb}
use Rattle.numbers.proofs.Orders.{Ordered}

pub int-le-refl : (x : ℤ) → le_z x x ≡ true
int-le-refl (pos a) = le-leb a a (omega arith)
int-le-refl (negsuc a) = le-leb a a (omega arith)

pub int-lt-le : (x y : ℤ) → lt_z x y ≡ true → le_z x y ≡ true
int-lt-le (pos a) (pos b) h = le-leb a b (omega (arith, ltb-true a b h))
int-lt-le (pos a) (negsuc b) h = h
int-lt-le (negsuc a) (pos b) h = refl
int-lt-le (negsuc a) (negsuc b) h = le-leb b a (omega (arith, ltb-true b a h))

pub int-not-lt-le : (x y : ℤ) → lt_z y x ≡ false → le_z x y ≡ true
int-not-lt-le (pos a) (pos b) h = le-leb a b (ltb-false b a h)
int-not-lt-le (pos a) (negsuc b) h = absurd (true≢false h)
int-not-lt-le (negsuc a) (pos b) h = refl
int-not-lt-le (negsuc a) (negsuc b) h = le-leb b a (ltb-false a b h)

pub int-le-not-lt : (x y : ℤ) → le_z x y ≡ true → lt_z y x ≡ false
int-le-not-lt (pos a) (pos b) h = le-ltb b a (leb-true a b h)
int-le-not-lt (pos a) (negsuc b) h = absurd (false≢true h)
int-le-not-lt (negsuc a) (pos b) h = refl
int-le-not-lt (negsuc a) (negsuc b) h = le-ltb a b (leb-true b a h)

pub int-le-trans : (x y z : ℤ) → le_z x y ≡ true → le_z y z ≡ true → le_z x z ≡ true
int-le-trans (pos a) (pos b) (pos c) h k = le-leb a c (omega (arith, leb-true a b h, leb-true b c k))
int-le-trans (pos a) (pos b) (negsuc c) h k = k
int-le-trans (pos a) (negsuc b) z h k = absurd (false≢true h)
int-le-trans (negsuc a) y (pos c) h k = refl
int-le-trans (negsuc a) (pos b) (negsuc c) h k = absurd (false≢true k)
int-le-trans (negsuc a) (negsuc b) (negsuc c) h k = le-leb c a (omega (arith, leb-true b a h, leb-true c b k))

pub integers : Ordered (λ z. true) lt_z le_z
integers = record {
  le_refl = λ x p. int-le-refl x;
  lt-le = int-lt-le;
  not-lt-le = λ x y h p q. int-not-lt-le x y h;
  le_not_lt = λ x y h p q. int-le-not-lt x y h;
  le_trans = λ x y z h k p q r. int-le-trans x y z h k;
}
