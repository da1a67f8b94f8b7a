-- What is known of a field that was found.
use Prim.Native.Nat.{ℕ, ◌+◌, ◌<◌, ◌≤◌}
use native.Mathlib.Omega.{arith}
use mathlib.Core.Path.{◌≡◌, refl, sym, ap, ◌∙◌}
use mathlib.Core.Bool.{Bool, true, false, cond}
use mathlib.Core.List.{List}
use lib.ListN.{length}
use borrow.Author.Tests.{leb-true}
use Rattle.std.specs.Prelude.{Option, Some, None}
use Rattle.numbers.specs.Bytes.{byte, le16}
use Rattle.oce_model.specs.Format.{leading_bytes, field_length_at}
use Rattle.oce_model.specs.Image.{field_end}
use Rattle.image_framing.specs.Walk.{leading_at}
use Rattle.reader.specs.declared.Found.{Found}
use Rattle.reader.specs.Reading.{whole, found_at, after_at}

-- the field f stands at an offset
pub record Stands (s : List ℕ) (at : ℕ) (f : Found) : Type 0 where
  pub whole : whole s at ≡ true
  pub is : f ≡ record { at = at; tag = byte s at; len = le16 s (at + field_length_at) }
  pub here : f.at ≡ at
  pub after : after_at s at ≡ f.at + leading_bytes + f.len
  pub within : after_at s at ≤ length s
  pub further : at < after_at s at

pub stands : {s : List ℕ} {at : ℕ} {f : Found} → Some f ≡ found_at s at → Stands s at f
unfolding field_end
stands {s} {at} {f} h = arm (whole s at) refl h
  where
    arm : (b : Bool) → whole s at ≡ b → Some f ≡ cond b (Some (record { at = at; tag = (leading_at s at).tag; len = (leading_at s at).len })) None → Stands s at f
    arm true e h =
        let l : field_end s at ≤ length s = leb-true (field_end s at) (length s) e in
        let n : after_at s at ≡ field_end s at = ap (λ (x : Bool). cond x (field_end s at) at) e in
        let q : f ≡ record { at = at; tag = (leading_at s at).tag; len = (leading_at s at).len } = cc in
        record { whole = e; is = q; here = ap (λ (x : Found). x.at) q; after = n ∙ sym (ap (λ (x : Found). x.at + leading_bytes + x.len) q); within = rw n l; further = rw n (omega arith) }
    arm false e h = cc

-- none is
pub stands_none : (s : List ℕ) (at : ℕ) → ◌≡◌ {A = Option Found} None (found_at s at) → whole s at ≡ false
stands_none s at h = arm (whole s at) refl h
  where
    arm : (b : Bool) → whole s at ≡ b → ◌≡◌ {A = Option Found} None (cond b (Some (record { at = at; tag = (leading_at s at).tag; len = (leading_at s at).len })) None) → whole s at ≡ false
    arm true e h = cc
    arm false e h = e
