-- Regions of one size that don't overlap, patched one after the other: each then holds its bytes, and the bytes outside are as they were.
use Prim.Native.Nat.{ℕ, zero, suc, ◌+◌, ◌≤◌, ◌<◌}
use native.Mathlib.Decide.{ℕ_discrete}
use native.Mathlib.Omega.{arith}
use mathlib.Core.Path.{◌≡◌, refl, ap, ◌∙◌}
use mathlib.Core.Logic.{◌⊎◌, inl, inr}
use mathlib.Core.List.{List, append_assoc}
use lib.ListN.{length, get_or, take, drop, length-take, length-drop, take-append-drop}
use lib.Seq.{drop-drop}
use Rattle.base.specs.Lists.{steps}
use Rattle.base.specs.Buffers.{patch}
use Rattle.base.proofs.Buffers.{patch-length, patch-inside, patch-before, patch-after}

-- bytes patched in where they stand change nothing
pub patch-own : (s : List ℕ) (at w : ℕ) → at + w ≤ length s → patch s at (take w (drop at s)) ≡ s
unfolding patch
patch-own s at w l =
    let n : length (take w (drop at s)) ≡ w = simp (length-take, length-drop) (omega arith) in
    rw (n, append_assoc (take at s) (take w (drop at s)) (drop (at + w) s), ← (drop-drop w at s), take-append-drop w (drop at s)) (take-append-drop at s)

-- the first n of the regions that start at o, with the bytes bs
unfoldable pub patched : List ℕ → (ℕ → ℕ) → (ℕ → List ℕ) → ℕ → List ℕ
patched s o bs n = steps n (λ j t. patch t (o j) (bs j)) s

pub patched-next : (s : List ℕ) (o : ℕ → ℕ) (bs : ℕ → List ℕ) (n : ℕ) → patched s o bs (suc n) ≡ patch (patched s o bs n) (o n) (bs n)
unfolding patched steps
patched-next s o bs n = refl

patched-start : (s : List ℕ) (o : ℕ → ℕ) (bs : ℕ → List ℕ) → patched s o bs zero ≡ s
unfolding patched steps
patched-start s o bs = refl

-- where each region gets the bytes that stand there, nothing changes
pub patched-own : (s : List ℕ) (o : ℕ → ℕ) (bs : ℕ → List ℕ) (w n : ℕ) → ((j : ℕ) → j < n → o j + w ≤ length s) → ((j : ℕ) → j < n → bs j ≡ take w (drop (o j) s)) → patched s o bs n ≡ s
patched-own s o bs w zero fits h = patched-start s o bs
patched-own s o bs w (suc n) fits h =
    patched-next s o bs n ∙ ap (λ t. patch t (o n) (bs n)) (patched-own s o bs w n (λ j l. fits j (omega arith)) (λ j l. h j (omega arith)))
    ∙ ap (patch s (o n)) (h n (omega arith)) ∙ patch-own s (o n) w (fits n (omega arith))

-- offset x lies outside the w bytes from o on
abbrev pub Outside : ℕ → ℕ → ℕ → Type 0
Outside w o x = (x < o) ⊎ (o + w ≤ x)

-- regions at o and p don't overlap
abbrev pub Apart : ℕ → ℕ → ℕ → Type 0
Apart w o p = (o + w ≤ p) ⊎ (p + w ≤ o)

module _ (w : ℕ) (s : List ℕ) (o : ℕ → ℕ) (bs : ℕ → List ℕ) (N : ℕ)
    (sizes : (j : ℕ) → length (bs j) ≡ w) (fits : (j : ℕ) → j < N → o j + w ≤ length s)
    (apart : (i j : ℕ) → i < j → j < N → Apart w (o i) (o j)) where
  pub patched-length : (n : ℕ) → n ≤ N → length (patched s o bs n) ≡ length s
  patched-length zero l = ap length (patched-start s o bs)
  patched-length (suc n) l =
      let e = patched-length n (omega arith) in
      let k = fits n l in
      let z = sizes n in
      ap length (patched-next s o bs n) ∙ patch-length (patched s o bs n) (o n) (bs n) (omega arith) ∙ e

  room : (n : ℕ) → suc n ≤ N → o n + length (bs n) ≤ length (patched s o bs n)
  room n l = omega (arith, patched-length n (omega arith), fits n l, sizes n)

  -- one patch, outside it
  one_outside : (n x : ℕ) → suc n ≤ N → Outside w (o n) x → get_or (patch (patched s o bs n) (o n) (bs n)) x 0 ≡ get_or (patched s o bs n) x 0
  one_outside n x l (inl h) = patch-before (patched s o bs n) (o n) (bs n) (room n l) x h
  one_outside n x l (inr h) = patch-after (patched s o bs n) (o n) (bs n) (room n l) x (omega (arith, sizes n))

  pub patched-outside : (n x : ℕ) → n ≤ N → ((j : ℕ) → j < n → Outside w (o j) x) → get_or (patched s o bs n) x 0 ≡ get_or s x 0
  patched-outside zero x l h = ap (λ t. get_or t x 0) (patched-start s o bs)
  patched-outside (suc n) x l h =
      ap (λ t. get_or t x 0) (patched-next s o bs n) ∙ one_outside n x l (h n (omega arith)) ∙ patched-outside n x (omega arith) (λ j k. h j (omega arith))

  pub patched-inside : (n j i : ℕ) → n ≤ N → j < n → i < w → get_or (patched s o bs n) (o j + i) 0 ≡ get_or (bs j) i 0
  patched-inside zero j i l k h = absurd (omega arith)
  patched-inside (suc n) j i l k h = ap (λ t. get_or t (o j + i) 0) (patched-next s o bs n) ∙ arm (ℕ_discrete j n) (patched-inside n j i)
    where
      away : Apart w (o j) (o n) → Outside w (o n) (o j + i)
      away (inl a) = inl (omega arith)
      away (inr a) = inr (omega arith)

      arm : Dec (j ≡ n) → (n ≤ N → j < n → i < w → get_or (patched s o bs n) (o j + i) 0 ≡ get_or (bs j) i 0) → get_or (patch (patched s o bs n) (o n) (bs n)) (o j + i) 0 ≡ get_or (bs j) i 0
      arm (yes e) ih = rw e (patch-inside (patched s o bs n) (o n) (bs n) (room n l) i (omega (arith, sizes n)))
      arm (no e) ih = one_outside n (o j + i) l (away (apart j n (omega arith) l)) ∙ ih (omega arith) (omega arith) h
