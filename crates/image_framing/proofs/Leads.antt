-- Laws of what stands at an offset, with the code's own tests.
use Prim.Native.Nat.{ℕ, ◌+◌, ◌-◌, ◌<◌, ◌≤◌}
use native.Mathlib.Omega.{arith}
use mathlib.Core.Path.{◌≡◌, refl, sym, ap}
use mathlib.Core.Bool.{Bool, true, false, cond}
use mathlib.Core.List.{List}
use lib.Dec.{leb}
use lib.ListN.{length}
use borrow.Author.Tests.{le-leb, lt-leb, leb-true, leb-false}
use Rattle.std.specs.Bool.{then_some}
use Rattle.std.specs.Prelude.{Option, None, Some, IfSome}
use Rattle.numbers.specs.Bytes.{byte, le16}
use Rattle.numbers.proofs.Bytes.{byte_past, le-past}
use Rattle.oce_model.specs.Format.{leading_bytes, field_length_at}
use Rattle.oce_model.specs.Image.{field_end}
use Rattle.image_framing.specs.declared.Leading.{Leading}
use Rattle.image_framing.specs.Walk.{leading_at, whole_at}

module _ (s : List ℕ) (at : ℕ) where
  -- nothing stands past the end
  pub leads-past : length s ≤ at → ◌≡◌ {A = Leading} (record { tag = 0; len = 0; whole = false }) (leading_at s at)
  unfolding field_end
  leads-past h =
      let behind : length s ≤ at + field_length_at = omega arith in
      let past : length s < field_end s at = omega arith in
      rw (lt-leb _ _ past, ← (byte_past s at h), ← (le-past 2 s (at + field_length_at) behind)) refl

  -- a whole one, or one that runs past the end
  pub leads-there : {n m : ℕ} {b : Bool} → at < length s → n ≡ le16 s (at + field_length_at) → m ≡ n → b ≡ leb (leading_bytes + m) (length s - at) → ◌≡◌ {A = Leading} (record { tag = byte s at; len = n; whole = b }) (leading_at s at)
  unfolding field_end
  leads-there {n} {m} h p q r =
      rw (r, q, p) (ap (λ b. record { tag = byte s at; len = le16 s (at + field_length_at); whole = b }) (arm (leb (leading_bytes + le16 s (at + field_length_at)) (length s - at)) refl))
    where
      arm : (b : Bool) → leb (leading_bytes + le16 s (at + field_length_at)) (length s - at) ≡ b → b ≡ leb (field_end s at) (length s)
      arm true e = let k = leb-true _ _ e in let fits : field_end s at ≤ length s = omega arith in sym (le-leb _ _ fits)
      arm false e = let k = leb-false _ _ e in let past : length s < field_end s at = omega arith in sym (lt-leb _ _ past)

  pub whole-there : {l : Leading} → l ≡ leading_at s at → then_some l.whole l ≡ whole_at s at
  whole-there e = rw e (arm (leb (field_end s at) (length s)))
    where
      arm : (b : Bool) → then_some b (leading_at s at) ≡ cond b (Some (leading_at s at)) None
      arm true = refl
      arm false = refl

  -- and it ends within the image
  pub whole-inside : {l : Leading} {o : Option Leading} → l ≡ leading_at s at → o ≡ then_some l.whole l → IfSome o (λ l. at + leading_bytes + l.len ≤ length s)
  unfolding field_end
  whole-inside e q = rw (q, e) (arm (leb (field_end s at) (length s)) refl)
    where
      arm : (b : Bool) → leb (field_end s at) (length s) ≡ b → IfSome (then_some b (leading_at s at)) (λ l. at + leading_bytes + l.len ≤ length s)
      arm true e = leb-true _ _ e
      arm false e = tt

-- what is whole
pub whole-is : (s : List ℕ) (at : ℕ) {l : Leading} → Some l ≡ whole_at s at → (field_end s at ≤ length s) × (l ≡ leading_at s at)
whole-is s at {l} h = arm (leb (field_end s at) (length s)) refl h
  where
    arm : (b : Bool) → leb (field_end s at) (length s) ≡ b → Some l ≡ cond b (Some (leading_at s at)) None → (field_end s at ≤ length s) × (l ≡ leading_at s at)
    arm true e q = (leb-true _ _ e, cc)
    arm false e q = let z : ◌≡◌ {A = ℕ} 0 1 = cc in absurd (omega arith)

-- what isn't
pub not-whole : (s : List ℕ) (at : ℕ) → None ≡ whole_at s at → leb (field_end s at) (length s) ≡ false
not-whole s at h = arm (leb (field_end s at) (length s)) refl h
  where
    arm : (b : Bool) → leb (field_end s at) (length s) ≡ b → None ≡ cond b (Some (leading_at s at)) None → leb (field_end s at) (length s) ≡ false
    arm true e q = let z : ◌≡◌ {A = ℕ} 0 1 = cc in absurd (omega arith)
    arm false e q = e
