-- Laws of slots, by value.
use Prim.Native.Nat.{ℕ, zero, suc, ◌+◌, ◌*◌, ◌/◌, ◌%◌, ◌^◌, ◌≤◌, ◌<◌}
use native.Mathlib.Numerals.{add-one}
use native.Mathlib.Nat.{zero-div, zero-mul}
use native.Mathlib.Omega.{arith}
use mathlib.Core.Path.{◌≡◌, refl, sym, ◌∙◌}
use mathlib.Core.Bool.{Bool, true, false, cond}
use mathlib.Core.List.{List, [], map}
use Rattle.std.specs.Prelude.{Option, None}
use Rattle.std.specs.Bool.{then_some}
use Rattle.std.specs.Int.Bits.{bit_or}
use Rattle.std.proofs.lemmas.Nat.{or_disjoint}
use Rattle.std.proofs.lemmas.Nat.Bits.{and_pow}
use lib.ListN.{length, get_or, get_or-eq_default, get_or-map, length-map, set, take}
use lib.Seq.{take-suc, take-suc-set, take_all}
use lib.Dec.{eqb}
use borrow.Author.Tests.{eqb-false}
use Rattle.numbers.specs.Bytes.{bit}
use Rattle.oce_model.specs.Attributes.{no_attrs, num, declared_at, declare_at, marked}
use Rattle.oce_model.specs.declared.Attrs.{Attrs}
use Rattle.unify.specs.Details.{kind_of, bit_of}
use Rattle.unify.specs.Slots.{Slots, slot, value, put}
use Rattle.unify.specs.declared.Detail.{Detail}

-- a bit's weight within a byte
pub weigh : (p : ℕ) → p < 6 → 1 * 2 ^ p % 256 ≡ 2 ^ p
weigh zero h = refl
weigh (suc zero) h = refl
weigh (suc (suc zero)) h = refl
weigh (suc (suc (suc zero))) h = refl
weigh (suc (suc (suc (suc zero)))) h = refl
weigh (suc (suc (suc (suc (suc zero))))) h = refl
weigh (suc (suc (suc (suc (suc (suc p)))))) h = absurd (omega arith)

-- a mark that isn't set is added
or-mark : (m p : ℕ) → bit m p ≡ false → bit_or m (2 ^ p) ≡ m + 2 ^ p
unfolding bit
or-mark m p h =
    let n = eqb-false (m / 2 ^ p % 2) 1 h in
    let e : m / 2 ^ p % 2 ≡ 0 = omega arith in
    or_disjoint m (2 ^ p) (and_pow m p ∙ rw (e, zero-mul (2 ^ p)))

-- ---- no slot

pub bit-zero : (p : ℕ) → bit 0 p ≡ false
unfolding bit
bit-zero p = rw (zero-div (2 ^ p))

-- where there is no slot, nothing is declared
pub declared-outside : (d : Detail) (σ : Slots) (j : ℕ) → length σ ≤ j → None ≡ value d (slot σ j)
unfolding value declared_at slot no_attrs
declared-outside d σ j h = rw (get_or-eq_default σ no_attrs h) (arm (eqb 0 (kind_of d)))
  where
    arm : (b : Bool) → None ≡ cond b (marked (bit 0 (bit_of d)) (get_or {A = ℕ} [] (bit_of d) 0)) None
    arm true = rw (bit-zero (bit_of d))
    arm false = refl

-- ---- one slot, by its kind and its mark for a detail

module _ (d : Detail) (a : Attrs) {k : ℕ} {t : Bool} (ek : k ≡ kind_of d) (et : t ≡ eqb a.kind k) where
  kind-is : eqb a.kind (kind_of d) ≡ t
  kind-is = rw (← ek) (sym et)

  pub declared-other : t ≡ false → {b : Bool} (v : ℕ) {o : Option ℕ} → o ≡ then_some b v → b ≡ t → o ≡ value d a
  unfolding value
  declared-other n v eo eb = eo ∙ rw (eb, kind-is, n)

  pub put-other : (v : ℕ) → t ≡ false → a ≡ put d v a
  unfolding put
  put-other v n = rw (kind-is, n)

  module _ (e : t ≡ true) {p : ℕ} (ep : p ≡ bit_of d) {r : Bool} (er : r ≡ bit a.marks p) where
    kind-so : eqb a.kind (kind_of d) ≡ true
    kind-so = kind-is ∙ e

    bit-so : bit a.marks (bit_of d) ≡ r
    bit-so = rw (← ep) (sym er)

    pub declared-kind : {b : Bool} {v : ℕ} {o : Option ℕ} → o ≡ then_some b v → b ≡ r → v ≡ num a p → o ≡ value d a
    unfolding value declared_at
    declared-kind eo eb ev = eo ∙ rw (eb, ev, ep, kind-so, bit-so) (arm r)
      where
        arm : (x : Bool) → then_some x (num a (bit_of d)) ≡ marked x (num a (bit_of d))
        arm true = refl
        arm false = refl

    pub put-marked : (v : ℕ) → r ≡ true → a ≡ put d v a
    unfolding put declared_at
    put-marked v t = rw (kind-so, bit-so, t)

    pub put-new : (v : ℕ) → r ≡ false → p < 6 → record { kind = a.kind; marks = bit_or a.marks (1 * 2 ^ p % 256); nums = set a.nums p v } ≡ put d v a
    unfolding put declared_at declare_at
    put-new v f l = rw (kind-so, bit-so, f, ← ep, weigh p l, or-mark a.marks p (sym er ∙ f))

-- ---- a loop that reads the attributes of all connectors, or of all boundary outputs

module _ {X : Type 0} (attrs : X → Attrs) (xs : List X) (l : Slots) (j : ℕ) (v : take j l ≡ take j (map attrs xs)) where
  pub load-next : (none : X) {a : Attrs} → a ≡ attrs (get_or xs j none) → j < length l → j < length xs → take (j + 1) (set l j a) ≡ take (j + 1) (map attrs xs)
  load-next none {a} e h k =
      let k' : j < length (map attrs xs) = rw length-map k in
      rw (add-one j, take-suc-set l j a h, take-suc (map attrs xs) j (attrs none) k', v, e ∙ sym (get_or-map attrs xs j none))

  pub load-all : length l ≤ j → length xs ≤ j → l ≡ map attrs xs
  load-all h k = sym (take_all j l h) ∙ v ∙ take_all j (map attrs xs) (rw length-map k)
