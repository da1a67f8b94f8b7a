-- Laws of numbers of w bytes, over the width.
use Prim.Native.Nat.{ℕ, zero, suc, ◌+◌, ◌*◌, ◌/◌, ◌%◌, ◌≤◌, ◌<◌, ◌^◌}
use native.Mathlib.Nat.{zero-add, add-zero, suc-add, pow-succ', pow-zero, div-lt_iff_lt-mul, div-div-eq-div-mul, mod-add-div, div-one, mul_assoc, add-mul-div_left, add-mul-mod_self_left}
use native.Mathlib.Numerals.{add-one}
use native.Mathlib.Omega.{arith}
use mathlib.Core.Path.{◌≡◌, refl, sym, ap, ◌∙◌}
use mathlib.Core.List.{List, [], ◌∷◌, ◌++◌}
use lib.ListN.{length, take, drop, replicate, length-take, length-drop, length-replicate, get_or-replicate, get_or-eq_default}
use lib.Seq.{get_or-append-add, get_or-take, get_or-drop, drop-cons}
use native.Mathlib.Decide.{dec_lt}
use Rattle.base.specs.Buffers.{patch}
use Rattle.base.proofs.Buffers.{patch-inside, patch-after}
use Rattle.numbers.specs.Bytes.{byte, le_at, le_bytes}
pub use Rattle.numbers.specs.Same.{le_same}

-- ---- le_at: which bytes count

-- v + w bytes are v bytes and w more
pub le-add : (v w : ℕ) (s : List ℕ) (at : ℕ) → le_at (v + w) s at ≡ le_at v s at + 256 ^ v * le_at w s (at + v)
unfolding le_at
le-add zero w s at = rw (zero-add w, add-zero at) (omega arith)
le-add (suc v) w s at =
    let e : at + 1 + v ≡ at + suc v = omega arith in
    rw (suc-add v w, le-add v w s (at + 1), pow-succ' 256 v, e) (omega (arith, mul_assoc 256 (256 ^ v) (le_at w s (at + suc v))))

pub le-append-right : (w : ℕ) (xs ys : List ℕ) (at : ℕ) → le_at w (xs ++ ys) (length xs + at) ≡ le_at w ys at
le-append-right w xs ys at = le_same w (xs ++ ys) ys (length xs + at) at (λ i l. ap (λ n. byte (xs ++ ys) n) (right i) ∙ get_or-append-add xs ys (at + i) 0)
  where
    right : (i : ℕ) → length xs + at + i ≡ length xs + (at + i)
    right i = omega arith

-- w bytes hold less than 256 ^ w
pub le-fits : (w : ℕ) (s : List ℕ) (at : ℕ) → ((i : ℕ) → i < w → byte s (at + i) < 256) → le_at w s at < 256 ^ w
unfolding le_at
le-fits zero s at h = rw (pow-zero 256) (omega arith)
le-fits (suc w) s at h =
    let a : byte s at < 256 = rw add-zero at (h 0 (omega arith)) in
    let b : le_at w s (at + 1) < 256 ^ w = le-fits w s (at + 1) (λ i l. rw (right i) (h (suc i) (omega arith))) in
    rw (pow-succ' 256 w) (omega arith)
  where
    right : (i : ℕ) → at + 1 + i ≡ at + suc i
    right i = omega arith

-- ---- le_bytes

pub le_bytes-length : (w n : ℕ) → length (le_bytes w n) ≡ w
unfolding le_bytes
le_bytes-length zero n = refl
le_bytes-length (suc w) n = ap suc (le_bytes-length w (n / 256))

-- v + w bytes are the low v bytes and w more
pub le_bytes-add : (v w n : ℕ) → le_bytes (v + w) n ≡ le_bytes v n ++ le_bytes w (n / 256 ^ v)
unfolding le_bytes
le_bytes-add zero w n = rw (zero-add w, pow-zero 256, div-one n)
le_bytes-add (suc v) w n = rw (suc-add v w, le_bytes-add v w (n / 256), div-div-eq-div-mul n 256 (256 ^ v), pow-succ' 256 v)

-- what stands above w bytes doesn't count
le_bytes-above : (w n k : ℕ) → le_bytes w (n + 256 ^ w * k) ≡ le_bytes w n
unfolding le_bytes
le_bytes-above zero n k = refl
le_bytes-above (suc w) n k =
    let p : 0 < 256 = omega arith in
    rw (pow-succ' 256 w, mul_assoc 256 (256 ^ w) k, add-mul-mod_self_left n 256 (256 ^ w * k), add-mul-div_left n (256 ^ w * k) p, le_bytes-above w (n / 256) k)

pub le_bytes-low : (w n : ℕ) → le_bytes w (n % 256 ^ w) ≡ le_bytes w n
le_bytes-low w n = sym (le_bytes-above w (n % 256 ^ w) (n / 256 ^ w)) ∙ ap (le_bytes w) (mod-add-div n (256 ^ w))

-- a number comes back from its bytes
pub le-bytes : (w n : ℕ) (r : List ℕ) → n < 256 ^ w → le_at w (le_bytes w n ++ r) 0 ≡ n
unfolding le_at le_bytes
le-bytes zero n r h = let l : n < 1 = rw pow-zero at h in omega arith
le-bytes (suc w) n r h =
    let b = n % 256 ∷ [] in
    let t = le_bytes w (n / 256) ++ r in
    let l : n / 256 < 256 ^ w = (div-lt_iff_lt-mul {k = 256} {x = n} {y = 256 ^ w} (omega arith)).1 (omega (arith, pow-succ' 256 w)) in
    let e : le_at w (b ++ t) 1 ≡ n / 256 = le-append-right w b t 0 ∙ le-bytes w (n / 256) r l in
    rw e (mod-add-div n 256)

-- the bytes come back from their number
pub bytes_le : (w : ℕ) (s : List ℕ) (at : ℕ) → at + w ≤ length s → ((i : ℕ) → i < w → byte s (at + i) < 256) → le_bytes w (le_at w s at) ≡ take w (drop at s)
unfolding le_at le_bytes
bytes_le zero s at f h = refl
bytes_le (suc w) s at f h =
    let a : byte s at < 256 = rw add-zero at (h 0 (omega arith)) in
    let m : (byte s at + 256 * le_at w s (at + 1)) % 256 ≡ byte s at = omega arith in
    let d : (byte s at + 256 * le_at w s (at + 1)) / 256 ≡ le_at w s (at + 1) = omega arith in
    rw (m, d, bytes_le w s (at + 1) (omega arith) (λ i l. rw (right i) (h (suc i) (omega arith))), drop-cons s at 0 (omega arith), add-one at)
  where
    right : (i : ℕ) → at + 1 + i ≡ at + suc i
    right i = omega arith

-- ---- le_at past the end

pub byte_past : (s : List ℕ) (at : ℕ) → length s ≤ at → 0 ≡ byte s at
byte_past s at h = sym (get_or-eq_default s 0 h)

-- the bytes of a part that ends early, with zeros behind them
pub byte-padded : (s : List ℕ) (at w n i : ℕ) {there padded : List ℕ} → there ≡ take w (drop at s) → padded ≡ patch (replicate n 0) 0 there → w ≤ n → i < w → byte padded (0 + i) ≡ byte s (at + i)
byte-padded s at w n i {there} {padded} e p f h =
    let room : length there ≤ length (replicate {A = ℕ} n 0) = rw (e, length-replicate {A = ℕ} n 0, length-take) (omega arith) in
    let fits : 0 + length there ≤ length (replicate {A = ℕ} n 0) = rw zero-add room in
    let inside : byte (take w (drop at s)) i ≡ byte s (at + i) = get_or-take w (drop at s) i 0 h ∙ get_or-drop at s i 0 in
    ap (λ t. byte t (0 + i)) p ∙ arm fits inside (dec_lt i (length there))
  where
    behind : (m : ℕ) → length there ≡ m → m ≤ i → length s ≤ at + i
    behind m l k = let c : length (take w (drop at s)) ≡ m = rw e at l in omega (arith, simp (length-take, length-drop) at c)

    arm : 0 + length there ≤ length (replicate {A = ℕ} n 0) → byte (take w (drop at s)) i ≡ byte s (at + i) → Dec (i < length there) → byte (patch (replicate n 0) 0 there) (0 + i) ≡ byte s (at + i)
    arm fits inside (yes l) = patch-inside (replicate n 0) 0 there fits i l ∙ ap (λ t. byte t i) e ∙ inside
    arm fits inside (no l) =
        patch-after (replicate n 0) 0 there fits (0 + i) (omega arith)
        ∙ get_or-replicate n (0 + i) 0 0 (omega arith) ∙ byte_past s (at + i) (behind (length there) refl (omega arith))

-- past the end every number is 0
pub le-past : (w : ℕ) (s : List ℕ) (at : ℕ) → length s ≤ at → 0 ≡ le_at w s at
unfolding le_at
le-past zero s at h = refl
le-past (suc w) s at h = rw (← (byte_past s at h), ← (le-past w s (at + 1) (omega arith)))
