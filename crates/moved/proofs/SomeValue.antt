-- A range that isn't crossed holds a value of its type, and no value lies inside a crossed Integer range.
use Prim.Native.Nat.{ℕ, zero, suc, ◌^◌, ◌≤◌, ◌<◌}
use native.Mathlib.Decide.{dec_lt}
use native.Mathlib.Omega.{arith}
use mathlib.Core.Path.{◌≡◌, refl}
use mathlib.Core.Bool.{Bool, true, false, cond, ◌&&◌, false≢true}
use mathlib.Core.List.{[]}
use Rattle.std.specs.Prelude.{Option, Some, None}
use lib.Dec.{T, leb}
use lib.IntN.{ℤ, pos, negsuc}
use lib.Signed.{mag}
use lib.Ieee.{Float, fin, binary64, fits}
use lib.Ieee.Bits.{of_bits-fits}
use lib.Ieee.Scale.{finite}
use borrow.Author.Tests.{eq-eqb, ne_eqb, lt-ltb, le-ltb, leb-true}
use mir.Syntax.{w64}
use mir.Val.{to_z}
use mir.Facts.{to_z_pos}
use Rattle.base.specs.Lists.{all}
use Rattle.numbers.specs.Bytes.{signed64, real64}
use Rattle.oce_model.specs.Format.{enum_kind, integer_kind, max_bit, min_bit, real_kind}
use Rattle.oce_model.specs.Attributes.{declared_at}
use Rattle.oce_model.specs.declared.Attrs.{Attrs}
use Rattle.oce_model.specs.Model.{Connector, Model}
use Rattle.crossed_bounds.specs.Ranges.{finite_end, real_end, or_default, real_range, integer_range, range_of, crossed_ends, crossed_bounds, crossed}
use Rattle.crossed_bounds.specs.Values.{Datum, real, integer, boolean, string, enum, of_kind, class_is, of_type, not_below, not_above, inside_bounds, inside}
use Rattle.crossed_bounds.specs.declared.Bounds.TheVariants.{Real, Integer}
use Rattle.crossed_bounds.specs.Ends.{End}
use Rattle.crossed_bounds.specs.Ends.{Range}
use Rattle.base.proofs.Lists.{and_parts}
use Rattle.base.proofs.Members.{and_both}
use Rattle.numbers.proofs.Reals.{real-le-refl, real-not-lt-le}
use Rattle.numbers.proofs.Integers.{int-le-refl, int-not-lt-le}

-- an end of the range where it has one, else 0
abbrev real_in : End → End → Float
real_in None None = fin false 0 (pos 0)
real_in None (Some b) = b
real_in (Some a) None = a
real_in (Some a) (Some b) = a

abbrev pick_real : Range → Float
pick_real None = fin false 0 (pos 0)
pick_real (Some (Real lo hi)) = real_in lo hi
pick_real (Some (Integer lo hi)) = fin false 0 (pos 0)

abbrev pick_integer : Range → ℤ
pick_integer None = pos 0
pick_integer (Some (Real lo hi)) = pos 0
pick_integer (Some (Integer lo hi)) = lo

-- a value of a type and a class inside a range
abbrev pub pick : ℕ → ℕ → Range → Datum
pick zero c r = real (pick_real r)
pick (suc zero) c r = integer (pick_integer r)
pick (suc (suc zero)) c r = boolean false
pick (suc (suc (suc zero))) c r = string []
pick (suc (suc (suc (suc k)))) c r = enum c 0

is_true : (b : Bool) → T b → b ≡ true
is_true true t = refl
is_true false t = absurd t

bits-real : (b : ℕ) → finite (real64 b) ≡ true → of_kind 0 (real (real64 b)) ≡ true
unfolding of_kind real64
bits-real b h = rw h (is_true _ (of_bits-fits binary64 b))

zero-real : of_kind 0 (real (fin false 0 (pos 0))) ≡ true
unfolding of_kind fits
zero-real = refl

record Fit (k : ℕ) (r : Range) (v : Datum) : Type 0 where
  kind : of_kind k v ≡ true
  range : inside r v ≡ true

real-fit : (x y : Option ℕ) → crossed (real_range x y) ≡ false → Fit 0 (real_range x y) (real (pick_real (real_range x y)))
unfolding real_range inside inside_bounds not_below not_above finite_end real_end crossed crossed_bounds crossed_ends
real-fit x y h = arm x y (finite_end x && finite_end y) refl h
  where
    arm : (x y : Option ℕ) (t : Bool) → (finite_end x && finite_end y) ≡ t → crossed (cond t (Some (Real (real_end x) (real_end y))) None) ≡ false
        → Fit 0 (cond t (Some (Real (real_end x) (real_end y))) None) (real (pick_real (cond t (Some (Real (real_end x) (real_end y))) None)))
    arm x y false e h = record { kind = zero-real; range = refl }
    arm None None true e h = record { kind = zero-real; range = refl }
    arm None (Some q) true e h = record { kind = bits-real q e; range = real-le-refl (real64 q) e }
    arm (Some p) None true e h =
        let f = (and_parts (finite (real64 p)) true e).0 in
        record { kind = bits-real p f; range = and_both _ true (real-le-refl (real64 p) f) refl }
    arm (Some p) (Some q) true e h =
        let f = and_parts (finite (real64 p)) (finite (real64 q)) e in
        record { kind = bits-real p f.0; range = and_both _ _ (real-le-refl (real64 p) f.0) (real-not-lt-le (real64 p) (real64 q) h f.0 f.1) }

-- a signed number has its width, whatever the pattern
pub signed-mag : (b : ℕ) → mag (signed64 b) < 2 ^ 63
unfolding signed64
signed-mag b = arm (dec_lt b (2 ^ 63))
  where
    arm : Dec (b < 2 ^ 63) → mag (to_z w64 b) < 2 ^ 63
    arm (yes l) = rw (to_z_pos w64 l) l
    arm (no l) = rw (le-ltb b (2 ^ 63) (omega arith)) (omega arith)

default-mag : (o : Option ℕ) (z : ℤ) → mag z < 2 ^ 63 → mag (or_default o z) < 2 ^ 63
default-mag None z h = h
default-mag (Some b) z h = signed-mag b

integer-fit : (lo hi : ℤ) → mag lo < 2 ^ 63 → crossed (Some (Integer lo hi)) ≡ false → Fit 1 (Some (Integer lo hi)) (integer lo)
unfolding of_kind inside inside_bounds crossed crossed_bounds
integer-fit lo hi l h = record { kind = lt-ltb _ _ l; range = and_both _ _ (int-le-refl lo) (int-not-lt-le lo hi h) }

module _ (m : Model) (a : Attrs) where
  range-real : a.kind ≡ real_kind → range_of m.defaults a ≡ real_range (declared_at a min_bit) (declared_at a max_bit)
  unfolding range_of
  range-real e = rw (eq-eqb a.kind 0 e)

  range-integer : a.kind ≡ integer_kind → range_of m.defaults a ≡ Some (Integer (or_default (declared_at a min_bit) m.defaults.min) (or_default (declared_at a max_bit) m.defaults.max))
  unfolding range_of integer_range
  range-integer e = rw (ne_eqb a.kind 0 (λ z. absurd (omega arith)), eq-eqb a.kind 1 e)

  range_none : 2 ≤ a.kind → range_of m.defaults a ≡ None
  unfolding range_of
  range_none l = rw (ne_eqb a.kind 0 (λ z. absurd (omega arith)), ne_eqb a.kind 1 (λ z. absurd (omega arith)))

  kind-fit : (k c : ℕ) → a.kind ≡ k → k ≤ 4 → mag m.defaults.min < 2 ^ 63 → crossed (range_of m.defaults a) ≡ false → Fit k (range_of m.defaults a) (pick k c (range_of m.defaults a))
  unfolding of_kind inside all
  kind-fit zero c e l i h = rw (range-real e) (real-fit (declared_at a min_bit) (declared_at a max_bit) (rw (range-real e) at h))
  kind-fit (suc zero) c e l i h =
      rw (range-integer e)
      (integer-fit (or_default (declared_at a min_bit) m.defaults.min) (or_default (declared_at a max_bit) m.defaults.max) (default-mag (declared_at a min_bit) m.defaults.min i) (rw (range-integer e) at h))
  kind-fit (suc (suc zero)) c e l i h = rw (range_none (omega arith)) (record { kind = refl; range = refl })
  kind-fit (suc (suc (suc zero))) c e l i h = rw (range_none (omega arith)) (record { kind = refl; range = refl })
  kind-fit (suc (suc (suc (suc zero)))) c e l i h = rw (range_none (omega arith)) (record { kind = refl; range = refl })
  kind-fit (suc (suc (suc (suc (suc k))))) c e l i h = absurd (omega arith)

class-fit : (k c : ℕ) (r : Range) → class_is c (pick k c r) ≡ true
class-fit zero c r = refl
class-fit (suc zero) c r = refl
class-fit (suc (suc zero)) c r = refl
class-fit (suc (suc (suc zero))) c r = refl
class-fit (suc (suc (suc (suc k)))) c r = eq-eqb c c refl

pub pick-fits : (m : Model) (c : Connector) (a : Attrs) → a.kind ≡ c.value_type → c.value_type ≤ enum_kind → mag m.defaults.min < 2 ^ 63 → crossed (range_of m.defaults a) ≡ false
    → (of_type c (pick c.value_type c.enum_class (range_of m.defaults a)) ≡ true) × (inside (range_of m.defaults a) (pick c.value_type c.enum_class (range_of m.defaults a)) ≡ true)
unfolding of_type
pick-fits m c a e l i h =
    let f = kind-fit m a c.value_type c.enum_class e l i h in
    (and_both _ _ f.kind (class-fit c.value_type c.enum_class (range_of m.defaults a)), f.range)

-- no value lies inside an Integer range whose ends are numbers from 0 on, the min above the max
pub crossed-empty : (a b : ℕ) → b < a → (v : Datum) → inside (Some (Integer (pos a) (pos b))) v ≡ true → ⊥
unfolding inside inside_bounds
crossed-empty a b l (real x) h = false≢true h
crossed-empty a b l (integer (pos z)) h =
    let q = and_parts (leb a z) (leb z b) h in
    omega (arith, leb-true a z q.0, leb-true z b q.1)
crossed-empty a b l (integer (negsuc z)) h = false≢true h
crossed-empty a b l (boolean x) h = false≢true h
crossed-empty a b l (string bs) h = false≢true h
crossed-empty a b l (enum c n) h = false≢true h
