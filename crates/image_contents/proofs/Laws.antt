-- Attributes that run past the image's end, and both parts of refusal 6.
use mathlib.Core.Path.{◌≡◌, refl}
use mathlib.Core.Bool.{Bool, true, false, ◌||◌}
use mathlib.Core.List.{List}
use Prim.Native.Nat.{ℕ, ◌+◌, ◌<◌, ◌≤◌}
use native.Mathlib.Omega.{arith}
use Rattle.numbers.specs.Bytes.{byte}
use Rattle.numbers.specs.Same.{byte_same, le_same}
use Rattle.oce_model.specs.Format.{attrs_length}
use Rattle.oce_model.specs.Attributes.{attrs_at}

pub spread : (b p q r s t u : Bool) → (b || (p || q || r || s || t || u)) ≡ (b || p || q || r || s || t || u)
spread true p q r s t u = refl
spread false p q r s t u = refl

-- the same bytes are the same attributes
pub same-attrs : (s t : List ℕ) (a b : ℕ) → ((i : ℕ) → i < attrs_length → byte s (a + i) ≡ byte t (b + i)) → attrs_at s a ≡ attrs_at t b
unfolding attrs_at
same-attrs s t a b h =
    rw (
      byte_same s t a b (λ i l. h i (omega arith)),
      byte_same s t (a + 1) (b + 1) (part 1 1 (omega arith)),
      le_same 2 s t (a + 2) (b + 2) (part 2 2 (omega arith)),
      le_same 2 s t (a + 4) (b + 4) (part 4 2 (omega arith)),
      le_same 2 s t (a + 6) (b + 6) (part 6 2 (omega arith)),
      le_same 8 s t (a + 8) (b + 8) (part 8 8 (omega arith)),
      le_same 8 s t (a + 16) (b + 16) (part 16 8 (omega arith)),
      le_same 8 s t (a + 24) (b + 24) (part 24 8 (omega arith)),
    ) refl
  where
    part : (k w : ℕ) → k + w ≤ attrs_length → (i : ℕ) → i < w → byte s (a + k + i) ≡ byte t (b + k + i)
    part k w l i m =
        let p : a + k + i ≡ a + (k + i) = omega arith in
        let q : b + k + i ≡ b + (k + i) = omega arith in
        rw (p, q) (h (k + i) (omega arith))
