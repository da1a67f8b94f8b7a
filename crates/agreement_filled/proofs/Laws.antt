-- Laws of stored filled records and of the image with their attributes.
use Prim.Native.Nat.{ℕ, ◌+◌, ◌*◌, ◌<◌, ◌≤◌}
use native.Mathlib.Omega.{arith}
use mathlib.Core.Path.{◌≡◌, refl, sym, ◌∙◌}
use mathlib.Core.Bool.{Bool, true, false, cond, ◌&&◌, and-false}
use mathlib.Core.List.{List}
use Rattle.std.specs.Prelude.{Some, None}
use Rattle.base.proofs.Options.{some-ne-none}
use lib.Dec.{eqb, ltb}
use mir.Val.{bool_byte}
use lib.ListN.{length, get_or, take, length-take}
use borrow.Author.Tests.{le-leb, lt-leb, ltb-true, eqb-true}
use Rattle.base.specs.Lists.{steps, tally, same}
use Rattle.base.proofs.Lists.{steps_next, tally-next, tally-le}
use Rattle.oce_model.specs.Format.{attrs_length, longest_image}
use Rattle.oce_model.specs.Model.{Model, model_of}
use Rattle.oce_model.specs.Refusals.{refusal}
use Rattle.oce_model.specs.declared.Refusal.{Refusal}
use Rattle.oce_model.proofs.Accepted.{accepted, connectors-length, outputs-length}
use Rattle.unify_slots.specs.Slots.{slot_count}
use Rattle.outcome.specs.Filled.{slot_offsets, filled_of}
use Rattle.moved.proofs.Regions.{slots-fit}
use Rattle.agreement_filled.specs.Filled.{filled_size, is_slot, put_record, put_records, slots_among, filled_agrees}

-- ---- one record

-- the attributes of a slot that was found have room in the image
pub slot-fits : (s : List ℕ) → refusal s ≡ None → {m : Model} → m ≡ model_of s → {j to n : ℕ} {a : List ℕ} (k : ℕ) (xs : List ℕ) → Some j ≡ cond (ltb k (slot_count m)) (Some k) None → to ≡ get_or (slot_offsets s) j 0 → a ≡ take attrs_length xs → length s ≤ n → to + length a ≤ n
slot-fits s h {m} em {j} {a = a} k xs e o b l =
    let w : length a ≤ attrs_length = rw (b, length-take) (omega arith) in
    omega (arith, slots-fit s (accepted s h) j (rw (← (connectors-length s), ← (outputs-length s), ← em) (found (ltb k (slot_count m)) refl e)))
  where
    found : (b : Bool) → ltb k (slot_count m) ≡ b → Some j ≡ cond b (Some k) None → j < slot_count m
    found true q e = let n : j ≡ k = cc in rw n (ltb-true k (slot_count m) q)
    found false q e = cc

-- ---- records one after the other

one-or-none : (b : Bool) → bool_byte b ≡ cond b 1 0
one-or-none true = refl
one-or-none false = refl

-- the records before k are put into t₀
pub record Puts (f : List ℕ) (at : ℕ) (s : List ℕ) (n : ℕ) (t₀ t : List ℕ) (slots k : ℕ) : Type 0 where
  pub within : k ≤ n
  pub few : slots ≤ k
  pub counted : slots ≡ slots_among f at s k
  pub bytes : t ≡ put_records f at s k t₀
  pub long : length t ≡ length t₀

module _ {f : List ℕ} {at : ℕ} {s : List ℕ} {n : ℕ} {t₀ : List ℕ} where
  pub puts-start : Puts f at s n t₀ t₀ 0 0
  unfolding slots_among tally put_records steps
  puts-start = record { within = omega arith; few = omega arith; counted = refl; bytes = refl; long = refl }

  module _ {t : List ℕ} {slots k : ℕ} (v : Puts f at s n t₀ t slots k) where
    pub puts-turn : {t' : List ℕ} {b : Bool} {r : ℕ} → r ≡ bool_byte b → b ≡ is_slot f (at + filled_size * k) s → t' ≡ put_record f (at + filled_size * k) s t → k < n → length t' ≡ length t → Puts f at s n t₀ t' (slots + r) (k + 1)
    unfolding slots_among put_records
    puts-turn {t'} {b} {r} eb es e h l =
        let is : ℕ → Bool = λ k. is_slot f (at + filled_size * k) s in
        let c : slots + r ≡ tally (k + 1) is = rw (eb, one-or-none b, es, v.counted) (sym (tally-next k is)) in
        record {
          within = omega arith;
          few = omega (arith, tally-le (k + 1) is);
          counted = c;
          bytes = e ∙ rw v.bytes (sym (steps_next k (λ k. put_record f (at + filled_size * k) s) t₀));
          long = l ∙ v.long;
        }

    pub puts-count : n ≤ k → slots ≡ slots_among f at s n
    puts-count h = let e : k ≡ n = omega (arith, v.within) in v.counted ∙ rw e

    pub puts-bytes : n ≤ k → t ≡ put_records f at s n t₀
    puts-bytes h = let e : k ≡ n = omega (arith, v.within) in v.bytes ∙ rw e

-- ---- the image that is expected

pub image-short : (s : List ℕ) → refusal s ≡ None → length s ≤ longest_image
image-short s h = (accepted s h).short

-- ---- where they end

pub reach-inside : (f : List ℕ) (at n end : ℕ) {t : Bool} → t ≡ eqb (at + filled_size * n) end → t ≡ true → end ≤ length f → at + filled_size * n ≤ length f
reach-inside f at n end e h k = let q = eqb-true (at + filled_size * n) end (sym e ∙ h) in omega arith

-- ---- the whole

module _ (f : List ℕ) (at n end : ℕ) (s : List ℕ) where
  pub filled-past : length f < end → false ≡ filled_agrees f at n end s
  unfolding filled_agrees
  filled-past h = sym (rw (lt-leb end (length f) h))

  module _ {t : Bool} (e : t ≡ eqb (at + filled_size * n) end) where
    pub filled-astray : t ≡ false → false ≡ filled_agrees f at n end s
    unfolding filled_agrees
    filled-astray h = sym (rw (← e, h, and-false))

    pub filled-same : {r : Bool} → r ≡ (eqb (slots_among f at s n) n && same (put_records f at s n s) (filled_of s)) → t ≡ true → end ≤ length f → r ≡ filled_agrees f at n end s
    unfolding filled_agrees
    filled-same er h k = er ∙ sym (rw (le-leb end (length f) k, ← e, h))

  -- an image that is accepted isn't refused
  pub filled-refused : {r : Refusal} → refusal s ≡ Some r → refusal s ≡ None → false ≡ filled_agrees f at n end s
  filled-refused {r} e q = absurd (some-ne-none r (sym e ∙ q))
