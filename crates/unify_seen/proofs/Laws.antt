-- Laws of what the members of a cluster declare.
use Prim.Native.Nat.{ℕ, zero, suc, ◌+◌, ◌/◌, ◌%◌, ◌^◌, ◌≤◌, ◌<◌}
use native.Mathlib.Nat.{mod-lt}
use native.Mathlib.Decide.{ℕ_discrete}
use native.Mathlib.Omega.{arith}
use mathlib.Core.Path.{◌≡◌, refl, sym, ap, ◌∙◌}
use mathlib.Core.Bool.{Bool, true, false, cond, ◌&&◌, false≢true}
use mathlib.Core.List.{List, [], ◌∷◌}
use Rattle.std.specs.Prelude.{None}
use lib.Bits.{bit_or, or_shr, or_mod}
use lib.Dec.{eqb}
use lib.ListN.{length, get_or, get_or-eq_default}
use borrow.Author.Tests.{eqb-true, eqb-false}
use Rattle.numbers.specs.Bytes.{bit}
use Rattle.oce_model.specs.Format.{real_kind, integer_kind}
use Rattle.oce_model.specs.Attributes.{declared_at, marked, no_attrs, num}
use Rattle.oce_model.specs.declared.Attrs.{Attrs}
use Rattle.oce_model.specs.declared.Kind.{Kind}
use Rattle.oce_model.specs.declared.Kind.TheVariants.{Real, Integer, Boolean, String, Enum}
use Rattle.oce_model.specs.Model.{kind_number}
use Rattle.unify.specs.Details.{kind_of, bit_of}
use Rattle.unify.specs.Slots.{Slots, slot, value}
use Rattle.unify.specs.Unify.{declarations}
use Rattle.unify.specs.declared.Detail.{Detail}
use Rattle.unify.proofs.Details.{kind_of-le}
use Rattle.unify_slots.proofs.Laws.{bit-zero}
use Rattle.unify_seen.specs.Seen.{Holds, TakenIn, Sees, shows}

-- ---- bits

-- of two digits
digit_or : (x y : ℕ) → x < 2 → y < 2 → eqb (bit_or x y) 1 ≡ false → (eqb x 1 ≡ false) × (eqb y 1 ≡ false)
digit_or zero zero h l e = (refl, refl)
digit_or zero (suc zero) h l e = (refl, e)
digit_or (suc zero) zero h l e = (e, refl)
digit_or (suc zero) (suc zero) h l e = (e, e)
digit_or zero (suc (suc y)) h l e = absurd (omega arith)
digit_or (suc zero) (suc (suc y)) h l e = absurd (omega arith)
digit_or (suc (suc x)) y h l e = absurd (omega arith)

-- a bit that isn't set in `a | b` is set in neither
or-clear : (a b p : ℕ) → bit (bit_or a b) p ≡ false → (bit a p ≡ false) × (bit b p ≡ false)
unfolding bit
or-clear a b p e =
    let s : bit_or a b / 2 ^ p % 2 ≡ bit_or (a / 2 ^ p % 2) (b / 2 ^ p % 2) = ap (λ x. x % 2) (or_shr a b p) ∙ or_mod (a / 2 ^ p) (b / 2 ^ p) 1 in
    digit_or (a / 2 ^ p % 2) (b / 2 ^ p % 2) (mod-lt (a / 2 ^ p) (omega arith)) (mod-lt (b / 2 ^ p) (omega arith)) (ap (λ x. eqb x 1) (sym s) ∙ e)

-- ---- one member

pub taken-marks : (k kind marks b : ℕ) → TakenIn k kind marks b (bit_or b marks)
taken-marks k kind marks b = record { old = λ p h. (or-clear b marks p h).0; new = λ p f h. (or-clear b marks p h).1 }

-- ---- all members

module _ {σ : Slots} {js : List ℕ} where
  holds-turn : {k b n b' : ℕ} → Holds k σ js b n → TakenIn k (slot σ (get_or js n 0)).kind (slot σ (get_or js n 0)).marks b b' → Holds k σ js b' (n + 1)
  holds-turn {k} {b} {n} {b'} v t = record { each = λ i p h. arm i p h (ℕ_discrete i n) }
    where
      arm : (i p : ℕ) → i < n + 1 → Dec (i ≡ n) → (slot σ (get_or js i 0)).kind ≡ k → bit b' p ≡ false → bit (slot σ (get_or js i 0)).marks p ≡ false
      arm i p h (yes e) f c = rw e (t.new p (rw e at f) c)
      arm i p h (no m) f c = v.each i p (omega arith) f (t.old p c)

  pub sees-turn : {real integer n real' integer' : ℕ} → Sees σ js real integer n
      → TakenIn real_kind (slot σ (get_or js n 0)).kind (slot σ (get_or js n 0)).marks real real'
      → TakenIn integer_kind (slot σ (get_or js n 0)).kind (slot σ (get_or js n 0)).marks integer integer' → n < length js → Sees σ js real' integer' (n + 1)
  sees-turn v t u h = record { within = omega arith; reals = holds-turn v.reals t; integers = holds-turn v.integers u }

  -- where there is no slot, there are no marks
  pub sees-none : {real integer n : ℕ} → Sees σ js real integer n → length σ ≤ get_or js n 0 → n < length js → Sees σ js real integer (n + 1)
  unfolding slot no_attrs
  sees-none {n = n} v o h = sees-turn v (none _ _) (none _ _) h
    where
      none : (k b : ℕ) → TakenIn k (slot σ (get_or js n 0)).kind (slot σ (get_or js n 0)).marks b b
      none k b = record { old = λ p c. c; new = λ p f c. rw (get_or-eq_default σ no_attrs o) (bit-zero p) }

-- ---- a detail

not_real : (k : Kind) → (k ≡ Real → ⊥) → eqb (kind_number k) real_kind ≡ false
not_real Real n = absurd (n refl)
not_real Integer n = refl
not_real Boolean n = refl
not_real String n = refl
not_real Enum n = refl

module _ (d : Detail) (real integer : ℕ) {k : Kind} {p : ℕ} {r : Bool} (ek : kind_number k ≡ kind_of d) (ep : p ≡ bit_of d) where
  pub shows-real : r ≡ bit real p → k ≡ Real → r ≡ shows d real integer
  unfolding shows
  shows-real er e = er ∙ rw (← ek, e, ep)

  pub shows-integer : r ≡ bit integer p → (k ≡ Real → ⊥) → r ≡ shows d real integer
  unfolding shows
  shows-integer er n = er ∙ rw (← ek, not_real k n, ep)

-- attributes of the kind that don't have the bit set declare nothing
value-unmarked : (d : Detail) (a : Attrs) → (a.kind ≡ kind_of d → bit a.marks (bit_of d) ≡ false) → value d a ≡ None
unfolding value declared_at
value-unmarked d a h = arm (eqb a.kind (kind_of d)) refl
  where
    arm : (b : Bool) → eqb a.kind (kind_of d) ≡ b → cond b (marked (bit a.marks (bit_of d)) (num a (bit_of d))) None ≡ None
    arm true e = rw (h (eqb-true _ _ e))
    arm false e = refl

none-declared : (d : Detail) (σ : Slots) (js : List ℕ) → ((i : ℕ) → i < length js → value d (slot σ (get_or js i 0)) ≡ None) → declarations d σ js ≡ []
unfolding declarations
none-declared d σ [] h = refl
none-declared d σ (j ∷ js) h = rw (h 0 (omega arith)) (none-declared d σ js (λ i l. h (suc i) (omega arith)))

-- what shows in neither kind's marks no member declares
module _ {σ : Slots} {js : List ℕ} {real integer : ℕ} (v : Sees σ js real integer (length js)) (d : Detail) (e : shows d real integer ≡ false) where
  unmarked : (i : ℕ) → i < length js → (slot σ (get_or js i 0)).kind ≡ kind_of d → bit (slot σ (get_or js i 0)).marks (bit_of d) ≡ false
  unfolding shows
  unmarked i h f = arm (eqb (kind_of d) real_kind) refl e
    where
      arm : (b : Bool) → eqb (kind_of d) real_kind ≡ b → bit (cond b real integer) (bit_of d) ≡ false → bit (slot σ (get_or js i 0)).marks (bit_of d) ≡ false
      arm true q c = v.reals.each i (bit_of d) h (f ∙ eqb-true _ _ q) c
      arm false q c =
          let n : kind_of d ≡ real_kind → ⊥ = eqb-false _ _ q in
          let k : kind_of d ≡ integer_kind = omega (arith, kind_of-le d) in
          v.integers.each i (bit_of d) h (f ∙ k) c

  pub undeclared : declarations d σ js ≡ []
  undeclared = none-declared d σ js (λ i h. value-unmarked d (slot σ (get_or js i 0)) (unmarked i h))

-- nothing is set in marks that are 0
pub nothing-shows : (real integer : ℕ) {t : Bool} → t ≡ (eqb real 0 && eqb integer 0) → t ≡ true → (d : Detail) → shows d real integer ≡ false
unfolding shows
nothing-shows real integer et e d = arm (eqb real 0) refl (eqb integer 0) refl (sym et ∙ e) (eqb (kind_of d) real_kind)
  where
    arm : (b : Bool) → eqb real 0 ≡ b → (c : Bool) → eqb integer 0 ≡ c → (b && c) ≡ true → (k : Bool) → bit (cond k real integer) (bit_of d) ≡ false
    arm true f true g h true = rw (eqb-true real 0 f) (bit-zero (bit_of d))
    arm true f true g h false = rw (eqb-true integer 0 g) (bit-zero (bit_of d))
    arm true f false g h k = absurd (false≢true h)
    arm false f c g h k = absurd (false≢true h)
