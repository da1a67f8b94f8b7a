-- Laws of a buffer that bytes are put into: its length, its bytes, and one patch behind another.
use mathlib.Core.Path.{◌≡◌, refl, ◌∙◌}
use mathlib.Core.List.{List, [], ◌++◌, append_assoc, append-nil}
use Prim.Native.Nat.{ℕ, ◌+◌, ◌-◌, ◌≤◌, ◌<◌}
use native.Mathlib.Nat.{add-zero, zero-add}
use native.Mathlib.Omega.{arith}
use lib.ListN.{length, get_or, take, drop, length-append, length-take, length-drop, take-append-drop, get_or-append}
use lib.Seq.{paste, length-take-le, take-length, take_at, take-take, take-append-le, drop-append_seam, drop-append-add, drop-drop, get_or-append-add, get_or-take, get_or-drop}
use Rattle.base.specs.Buffers.{patch, starts_with}

-- ---- patch

pub patch-none : (s : List ℕ) (at : ℕ) → patch s at [] ≡ s
unfolding patch
patch-none s at = rw (append-nil (take at s), add-zero at) (take-append-drop at s)

-- the list library's name for it
pub patch-paste : (s : List ℕ) (at : ℕ) (bs : List ℕ) → patch s at bs ≡ paste s at bs (length bs)
unfolding patch
patch-paste s at bs = rw (take-length bs)

module _ (s : List ℕ) (at : ℕ) (bs : List ℕ) (fits : at + length bs ≤ length s) where
  pub patch-length : length (patch s at bs) ≡ length s
  unfolding patch
  patch-length = simp (length-append, length-take, length-drop) (omega arith)

  front : length (take at s) ≡ at
  front = length-take-le at s (omega arith)

  pub patch-inside : (i : ℕ) → i < length bs → get_or (patch s at bs) (at + i) 0 ≡ get_or bs i 0
  unfolding patch
  patch-inside i h =
      let l : at + i < length (take at s ++ bs) = rw (length-append, front) (omega arith) in
      let e : get_or (take at s ++ bs) (length (take at s) + i) 0 ≡ get_or bs i 0 = get_or-append-add (take at s) bs i 0 in
      get_or-append (take at s ++ bs) (drop (at + length bs) s) 0 (at + i) l ∙ (rw front at e)

  pub patch-before : (x : ℕ) → x < at → get_or (patch s at bs) x 0 ≡ get_or s x 0
  unfolding patch
  patch-before x h =
      let l : x < length (take at s ++ bs) = rw (length-append, front) (omega arith) in
      let k : x < length (take at s) = rw front h in
      get_or-append (take at s ++ bs) (drop (at + length bs) s) 0 x l ∙ (get_or-append (take at s) bs 0 x k ∙ get_or-take at s x 0 h)

  pub patch-after : (x : ℕ) → at + length bs ≤ x → get_or (patch s at bs) x 0 ≡ get_or s x 0
  unfolding patch
  patch-after x h =
      let i = x - (at + length bs) in
      let r : at + length bs + i ≡ x = omega arith in
      let e = get_or-append-add (take at s ++ bs) (drop (at + length bs) s) i 0 in
      rw r at ((rw (length-append, front) at e) ∙ get_or-drop (at + length bs) s i 0)

-- a patch behind a patch is one patch
pub patch-patch : (s : List ℕ) (at : ℕ) (xs ys : List ℕ) → at + length xs ≤ length s → patch (patch s at xs) (at + length xs) ys ≡ patch s at (xs ++ ys)
unfolding patch
patch-patch s at xs ys h =
    let n : length (take at s ++ xs) ≡ at + length xs = rw (length-append, length-take-le at s (omega arith)) in
    let e : at + length (xs ++ ys) ≡ at + length xs + length ys = rw length-append (omega arith) in
    let d : drop (at + length xs + length ys) (take at s ++ xs ++ drop (at + length xs) s) ≡ drop (at + length xs + length ys) s =
    (rw n at (drop-append-add (take at s ++ xs) (drop (at + length xs) s) (length ys))) ∙ drop-drop (length ys) (at + length xs) s in
    rw (take_at (take at s ++ xs) (drop (at + length xs) s) (at + length xs) n, d, e, append_assoc (take at s) xs ys)

-- and so is a patch before a patch
pub patch-reversed : (s : List ℕ) (at : ℕ) (xs ys : List ℕ) → at + length xs ≤ length s → patch (patch s (at + length xs) ys) at xs ≡ patch s at (xs ++ ys)
unfolding patch
patch-reversed s at xs ys h =
    let front = take (at + length xs) s in
    let behind = drop (at + length xs + length ys) s in
    let n : length front ≡ at + length xs = length-take-le (at + length xs) s h in
    let before : take at (front ++ (ys ++ behind)) ≡ take at s = take-append-le at front (ys ++ behind) (omega arith) ∙ take-take at (at + length xs) s (omega arith) in
    let after : drop (at + length xs) (front ++ (ys ++ behind)) ≡ ys ++ behind = rw n at (drop-append_seam front (ys ++ behind)) in
    let e : at + length (xs ++ ys) ≡ at + length xs + length ys = rw length-append (omega arith) in
    rw (append_assoc front ys behind, before, after, e) (simp append_assoc)

-- ---- starts_with

pub starts_with-none : (b : List ℕ) → starts_with [] b ≡ b
unfolding starts_with
starts_with-none b = refl

pub starts_with-length : (bs b : List ℕ) → length bs ≤ length b → length (starts_with bs b) ≡ length b
unfolding starts_with
starts_with-length bs b h = simp (length-append, length-drop) (omega arith)

pub starts_with-patch : (bs b : List ℕ) → starts_with bs b ≡ patch b 0 bs
unfolding starts_with patch
starts_with-patch bs b = rw zero-add
