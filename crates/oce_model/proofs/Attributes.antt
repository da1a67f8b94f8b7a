-- Attributes written as 32 bytes and read back, and the other way round.
use Prim.Native.Nat.{ℕ, zero, suc, ◌+◌, ◌^◌, ◌≤◌, ◌<◌}
use native.Mathlib.Nat.{add-zero}
use native.Mathlib.Omega.{arith}
use mathlib.Core.Path.{◌≡◌, refl, sym, ap, ◌∙◌}
use mathlib.Core.Bool.{Bool, true, false, cond}
use mathlib.Core.List.{List, [], ◌∷◌, ◌++◌}
use lib.ListN.{length, get_or, take, drop}
use lib.Dec.{ltb}
use lib.Seq.{drop-cons, drop-drop, take-add}
use borrow.Author.Tests.{le-ltb}
use Rattle.numbers.specs.Bytes.{byte, le_at, le_bytes}
use Rattle.oce_model.specs.Format.{attrs_length}
use Rattle.oce_model.specs.Attributes.{Attrs, attrs_at, attrs_bytes, no_attrs, num}
use Rattle.numbers.proofs.Bytes.{bytes_le, le-bytes, le-fits, le_same}

-- ---- each number has its width

-- what a number under bit p stays below: a text number has two bytes, others have eight
unfoldable pub cap : ℕ → ℕ
cap p = cond (ltb p 3) (256 ^ 2) (256 ^ 8)

pub record Caps (a : Attrs) : Type 0 where
  pub at : (p : ℕ) → num a p < cap p

pub at-caps : (s : List ℕ) (at : ℕ) → ((i : ℕ) → byte s i < 256) → Caps (attrs_at s at)
unfolding attrs_at cap
at-caps s at h = record { at = go }
  where
    go : (p : ℕ) → num (attrs_at s at) p < cap p
    go zero = le-fits 2 s (at + 2) (λ i l. h (at + 2 + i))
    go (suc zero) = le-fits 2 s (at + 4) (λ i l. h (at + 4 + i))
    go (suc (suc zero)) = le-fits 2 s (at + 6) (λ i l. h (at + 6 + i))
    go (suc (suc (suc zero))) = le-fits 8 s (at + 8) (λ i l. h (at + 8 + i))
    go (suc (suc (suc (suc zero)))) = le-fits 8 s (at + 16) (λ i l. h (at + 16 + i))
    go (suc (suc (suc (suc (suc zero))))) = le-fits 8 s (at + 24) (λ i l. h (at + 24 + i))
    go (suc (suc (suc (suc (suc (suc p)))))) = rw (le-ltb (suc (suc (suc (suc (suc (suc p)))))) 3 (omega arith)) (omega arith)

pub no-caps : Caps no_attrs
unfolding no_attrs cap
no-caps = record { at = λ p. arm p (ltb p 3) }
  where
    arm : (p : ℕ) (b : Bool) → 0 < cond b (256 ^ 2) (256 ^ 8)
    arm p true = omega arith
    arm p false = omega arith

-- ---- written and read back

pub bytes-length : (a : Attrs) → length (attrs_bytes a) ≡ attrs_length
unfolding attrs_bytes le_bytes
bytes-length a = refl

-- six numbers
module _ (k m n₀ n₁ n₂ n₃ n₄ n₅ : ℕ) where
  unfoldable pub six : Attrs
  six = record { kind = k; marks = m; nums = n₀ ∷ n₁ ∷ n₂ ∷ n₃ ∷ n₄ ∷ n₅ ∷ [] }

  lead₀ : byte (attrs_bytes six) 0 ≡ k
  unfolding six attrs_bytes
  lead₀ = refl

  lead₁ : byte (attrs_bytes six) 1 ≡ m
  unfolding six attrs_bytes
  lead₁ = refl

  place₀ : n₀ < 256 ^ 2 → le_at 2 (attrs_bytes six) 2 ≡ n₀
  unfolding six attrs_bytes le_at le_bytes
  place₀ h = le-bytes 2 n₀ [] h

  place₁ : n₁ < 256 ^ 2 → le_at 2 (attrs_bytes six) 4 ≡ n₁
  unfolding six attrs_bytes le_at le_bytes
  place₁ h = le-bytes 2 n₁ [] h

  place₂ : n₂ < 256 ^ 2 → le_at 2 (attrs_bytes six) 6 ≡ n₂
  unfolding six attrs_bytes le_at le_bytes
  place₂ h = le-bytes 2 n₂ [] h

  place₃ : n₃ < 256 ^ 8 → le_at 8 (attrs_bytes six) 8 ≡ n₃
  unfolding six attrs_bytes le_at le_bytes
  place₃ h = le-bytes 8 n₃ [] h

  place₄ : n₄ < 256 ^ 8 → le_at 8 (attrs_bytes six) 16 ≡ n₄
  unfolding six attrs_bytes le_at le_bytes
  place₄ h = le-bytes 8 n₄ [] h

  place₅ : n₅ < 256 ^ 8 → le_at 8 (attrs_bytes six) 24 ≡ n₅
  unfolding six attrs_bytes le_at le_bytes
  place₅ h = le-bytes 8 n₅ [] h

  module _ (t : List ℕ) (at : ℕ) (h : (i : ℕ) → i < attrs_length → byte t (at + i) ≡ byte (attrs_bytes six) i) where
    back : (w o : ℕ) → o + w ≤ attrs_length → le_at w t (at + o) ≡ le_at w (attrs_bytes six) o
    back w o l = le_same w t (attrs_bytes six) (at + o) o (λ i k. ap (λ n. byte t n) (right i) ∙ h (o + i) (omega arith))
      where
        right : (i : ℕ) → at + o + i ≡ at + (o + i)
        right i = omega arith

    pub attrs-back : n₀ < 256 ^ 2 → n₁ < 256 ^ 2 → n₂ < 256 ^ 2 → n₃ < 256 ^ 8 → n₄ < 256 ^ 8 → n₅ < 256 ^ 8 → attrs_at t at ≡ six
    unfolding attrs_at six
    attrs-back h₀ h₁ h₂ h₃ h₄ h₅ =
        rw (
          back 2 2 (omega arith) ∙ place₀ h₀,
          back 2 4 (omega arith) ∙ place₁ h₁,
          back 2 6 (omega arith) ∙ place₂ h₂,
          back 8 8 (omega arith) ∙ place₃ h₃,
          back 8 16 (omega arith) ∙ place₄ h₄,
          back 8 24 (omega arith) ∙ place₅ h₅,
          kind-back ∙ lead₀,
          h 1 (omega arith) ∙ lead₁,
        )
      where
        kind-back : byte t at ≡ byte (attrs_bytes six) 0
        kind-back = rw add-zero at (h 0 (omega arith))

-- attributes come back from their 32 bytes
pub attrs-again : (t : List ℕ) (at : ℕ) (a : Attrs) → length a.nums ≡ 6 → Caps a → ((i : ℕ) → i < attrs_length → byte t (at + i) ≡ byte (attrs_bytes a) i) → attrs_at t at ≡ a
unfolding six cap
attrs-again t at a l c h = arm a.nums l c.at h
  where
    k : ℕ
    k = a.kind

    m : ℕ
    m = a.marks

    arm : (ns : List ℕ) → length ns ≡ 6 → ((p : ℕ) → get_or ns p 0 < cap p) → ((i : ℕ) → i < attrs_length → byte t (at + i) ≡ byte (attrs_bytes (record { kind = k; marks = m; nums = ns })) i)
        → attrs_at t at ≡ record { kind = k; marks = m; nums = ns }
    arm [] l c h = absurd (omega arith)
    arm (a ∷ []) l c h = absurd (omega arith)
    arm (a ∷ b ∷ []) l c h = absurd (omega arith)
    arm (a ∷ b ∷ d ∷ []) l c h = absurd (omega arith)
    arm (a ∷ b ∷ d ∷ e ∷ []) l c h = absurd (omega arith)
    arm (a ∷ b ∷ d ∷ e ∷ f ∷ []) l c h = absurd (omega arith)
    arm (a ∷ b ∷ d ∷ e ∷ f ∷ g ∷ []) l c h = attrs-back k m a b d e f g t at h (c 0) (c 1) (c 2) (c 3) (c 4) (c 5)
    arm (a ∷ b ∷ d ∷ e ∷ f ∷ g ∷ x ∷ xs) l c h = absurd (omega arith)

-- where 32 bytes are the same, so are the attributes
pub attrs-same : (s t : List ℕ) (at : ℕ) → ((x : ℕ) → at ≤ x → x < at + attrs_length → byte t x ≡ byte s x) → attrs_at t at ≡ attrs_at s at
unfolding attrs_at
attrs-same s t at h =
    rw (h at (omega arith) (omega arith), h (at + 1) (omega arith) (omega arith), part 2 2 (omega arith), part 2 4 (omega arith), part 2 6 (omega arith), part 8 8 (omega arith), part 8 16 (omega arith), part 8 24 (omega arith))
  where
    part : (w o : ℕ) → o + w ≤ attrs_length → le_at w t (at + o) ≡ le_at w s (at + o)
    part w o l = le_same w t s (at + o) (at + o) (λ i k. h (at + o + i) (omega arith) (omega arith))

-- ---- read and written back

module _ (s : List ℕ) (bytes : (i : ℕ) → byte s i < 256) where
  -- two parts side by side are one
  merge : (a b x y : ℕ) → x + a ≡ y → take a (drop x s) ++ take b (drop y s) ≡ take (a + b) (drop x s)
  merge a b x y e = rw (← e) (ap (λ r. take a (drop x s) ++ take b r) (sym (drop-drop a x s)) ∙ sym (take-add a b (drop x s)))

  pub attrs-own : (at : ℕ) → at + attrs_length ≤ length s → attrs_bytes (attrs_at s at) ≡ take attrs_length (drop at s)
  unfolding attrs_bytes attrs_at
  attrs-own at l =
      rw (
        bytes_le 2 s (at + 2) (omega arith) (λ i l. bytes (at + 2 + i)),
        bytes_le 2 s (at + 4) (omega arith) (λ i l. bytes (at + 4 + i)),
        bytes_le 2 s (at + 6) (omega arith) (λ i l. bytes (at + 6 + i)),
        bytes_le 8 s (at + 8) (omega arith) (λ i l. bytes (at + 8 + i)),
        bytes_le 8 s (at + 16) (omega arith) (λ i l. bytes (at + 16 + i)),
        bytes_le 8 s (at + 24) (omega arith) (λ i l. bytes (at + 24 + i)),
        merge 2 2 (at + 2) (at + 4) (omega arith),
        merge 4 2 (at + 2) (at + 6) (omega arith),
        merge 6 8 (at + 2) (at + 8) (omega arith),
        merge 14 8 (at + 2) (at + 16) (omega arith),
        merge 22 8 (at + 2) (at + 24) (omega arith),
        drop-cons s at 0 (omega arith),
        drop-cons s (suc at) 0 (omega arith),
      )
      (let e : at + 1 ≡ suc at = omega arith in let f : at + 2 ≡ suc (suc at) = omega arith in rw (e, f))
