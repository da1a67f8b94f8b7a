-- The same bytes are the same number, whatever stands around them: the law of `LittleEndian`, for each width.
use Prim.Native.Nat.{ℕ, zero, suc, ◌+◌, ◌<◌}
use native.Mathlib.Nat.{add-zero}
use native.Mathlib.Omega.{arith}
use mathlib.Core.Path.{◌≡◌, refl, sym, ap, ◌∙◌}
use mathlib.Core.List.{List}
use Rattle.numbers.specs.Bytes.{byte, le_at}

-- of one byte
pub byte_same : (s t : List ℕ) (a b : ℕ) → ((i : ℕ) → i < 1 → byte s (a + i) ≡ byte t (b + i)) → byte s a ≡ byte t b
byte_same s t a b h = rw (add-zero a, add-zero b) at (h 0 (omega arith))

-- of w bytes
pub le_same : (w : ℕ) (s t : List ℕ) (a b : ℕ) → ((i : ℕ) → i < w → byte s (a + i) ≡ byte t (b + i)) → le_at w s a ≡ le_at w t b
unfolding le_at
le_same zero s t a b h = refl
le_same (suc w) s t a b h =
    let e : byte s a ≡ byte t b = rw (add-zero a, add-zero b) at (h 0 (omega arith)) in
    rw (e, le_same w s t (a + 1) (b + 1) (λ i l. ap (λ n. byte s n) (right a i) ∙ h (suc i) (omega arith) ∙ sym (ap (λ n. byte t n) (right b i))))
  where
    right : (c i : ℕ) → c + 1 + i ≡ c + suc i
    right c i = omega arith
