-- Laws of the details: each is known by its number, and by its kind and bit.
use Prim.Native.Nat.{ℕ, ◌≤◌, ◌<◌}
use native.Mathlib.Omega.{arith}
use mathlib.Core.Path.{◌≡◌, refl, sym, ap, ◌∙◌}
use mathlib.Core.Bool.{Bool, true, not, ◌&&◌}
use mathlib.Core.List.{List, [], ◌∷◌}
use lib.Dec.{eqb}
use lib.ListN.{get_or}
use Rattle.base.specs.Lists.{any}
use Rattle.oce_model.specs.Format.{integer_kind, min_bit, max_bit}
use Rattle.unify.specs.Details.{detail_number, kind_of, bit_of, unified_details}
use Rattle.unify.specs.declared.Detail.{Detail}
use Rattle.unify.specs.declared.Detail.TheVariants.{Unit, Quantity, RealMin, RealMax, IntegerMin, IntegerMax, DisplayUnit}

-- ---- kinds and bits

-- An attribute set has six numbers.
pub bit_of-lt : (d : Detail) → bit_of d < 6
unfolding bit_of
bit_of-lt Unit = omega arith
bit_of-lt Quantity = omega arith
bit_of-lt RealMin = omega arith
bit_of-lt RealMax = omega arith
bit_of-lt IntegerMin = omega arith
bit_of-lt IntegerMax = omega arith
bit_of-lt DisplayUnit = omega arith

-- Details are of kind Real or Integer.
pub kind_of-le : (d : Detail) → kind_of d ≤ integer_kind
unfolding kind_of
kind_of-le Unit = omega arith
kind_of-le Quantity = omega arith
kind_of-le RealMin = omega arith
kind_of-le RealMax = omega arith
kind_of-le IntegerMin = omega arith
kind_of-le IntegerMax = omega arith
kind_of-le DisplayUnit = omega arith

-- Those of kind Integer are ends.
pub integer-bits : (d : Detail) → kind_of d ≡ integer_kind → (min_bit ≤ bit_of d) × (bit_of d ≤ max_bit)
unfolding kind_of bit_of
integer-bits Unit e = absurd (omega arith)
integer-bits Quantity e = absurd (omega arith)
integer-bits RealMin e = absurd (omega arith)
integer-bits RealMax e = absurd (omega arith)
integer-bits IntegerMin e = (omega arith, omega arith)
integer-bits IntegerMax e = (omega arith, omega arith)
integer-bits DisplayUnit e = absurd (omega arith)

-- ---- which detail it is

-- The detail that has a number.
numbered : ℕ → Detail
numbered n = get_or (Unit ∷ Unit ∷ Quantity ∷ RealMin ∷ RealMax ∷ IntegerMin ∷ IntegerMax ∷ DisplayUnit ∷ []) n Unit

numbered_is : (d : Detail) → numbered (detail_number d) ≡ d
unfolding numbered detail_number
numbered_is Unit = refl
numbered_is Quantity = refl
numbered_is RealMin = refl
numbered_is RealMax = refl
numbered_is IntegerMin = refl
numbered_is IntegerMax = refl
numbered_is DisplayUnit = refl

-- Details with one number are one.
pub number_same : (d e : Detail) → detail_number d ≡ detail_number e → d ≡ e
number_same d e h = sym (numbered_is d) ∙ ap numbered h ∙ numbered_is e

-- The number of the detail that has a kind and a bit: 0 Real, 1 Integer; under the bits from 0 on a quantity, a unit, a display unit, a min, a max.
number_of : ℕ → ℕ → ℕ
number_of k p = get_or (get_or ((2 ∷ 1 ∷ 7 ∷ 3 ∷ 4 ∷ []) ∷ (0 ∷ 0 ∷ 0 ∷ 5 ∷ 6 ∷ []) ∷ []) k []) p 0

number_of-is : (d : Detail) → number_of (kind_of d) (bit_of d) ≡ detail_number d
unfolding number_of detail_number kind_of bit_of
number_of-is Unit = refl
number_of-is Quantity = refl
number_of-is RealMin = refl
number_of-is RealMax = refl
number_of-is IntegerMin = refl
number_of-is IntegerMax = refl
number_of-is DisplayUnit = refl

-- Details with one kind and one bit have one number.
pub place_same : (d e : Detail) → kind_of d ≡ kind_of e → bit_of d ≡ bit_of e → detail_number d ≡ detail_number e
place_same d e k b = sym (number_of-is d) ∙ ap (λ x. number_of x (bit_of d)) k ∙ ap (number_of (kind_of e)) b ∙ number_of-is e

-- ---- lists of details

-- d is among ds.
unfoldable pub among : Detail → List Detail → Bool
among d ds = any (λ e. eqb (detail_number d) (detail_number e)) ds

-- No detail is listed twice.
unfoldable pub distinct : List Detail → Bool
distinct [] = true
distinct (d ∷ ds) = not (among d ds) && distinct ds

pub unified-distinct : distinct unified_details ≡ true
unfolding distinct among any unified_details detail_number
unified-distinct = refl
