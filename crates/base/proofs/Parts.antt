-- Laws of a part of a buffer that is lent on, and comes back with other bytes or with bytes at its start.
use Prim.Native.Nat.{ℕ, ◌+◌, ◌-◌, ◌≤◌}
use native.Mathlib.Omega.{arith}
use mathlib.Core.Path.{◌≡◌}
use mathlib.Core.List.{List, ◌++◌, append_assoc, append-nil}
use lib.ListN.{length, drop, length-append, length-drop, drop_of_length-le}
use lib.Seq.{length-take-le, take_all, take-append_seam, drop-append_seam, drop-drop}
use borrow.Rule.Slice.PartMut.{put_mid, mid_of}
use Rattle.base.specs.Buffers.{patch, starts_with}

-- bytes fit the part from an index to the end
pub part_room : (xs : List ℕ) (o k n : ℕ) → k ≡ length xs - o → o + n ≤ length xs → n ≤ length (mid_of o k xs)
part_room xs o k n l h =
    let d : length (drop o xs) ≡ length xs - o = length-drop o xs in
    let f : length (mid_of o k xs) ≡ k = length-take-le k (drop o xs) (omega arith) in
    omega arith

-- a part that comes back whole as bs
pub part-copied : (xs bs : List ℕ) (o k : ℕ) {zs : List ℕ} → zs ≡ bs → k ≡ length bs → put_mid o k xs zs ≡ patch xs o bs
unfolding patch
part-copied xs bs o k e l = simp (e, l, drop-drop, append_assoc)

-- a part to the end that comes back with bs at its start
pub part-patched : (xs bs : List ℕ) (o k : ℕ) {zs : List ℕ} → zs ≡ starts_with bs (mid_of o k xs) → k ≡ length xs - o → put_mid o k xs zs ≡ patch xs o bs
unfolding starts_with patch
part-patched xs bs o k e l =
    let rest : length (drop o xs) ≤ k = simp length-drop (omega arith) in
    simp (e, take_all k (drop o xs) rest, drop_of_length-le (drop o xs) rest, append-nil, drop-drop, append_assoc)

-- and behind those that the buffer started with
pub part-behind : (a : ℕ) (l d xs ys zs : List ℕ) (k : ℕ) → a ≡ length l → length xs ≤ a + k → ys ≡ starts_with l xs → zs ≡ starts_with d (mid_of a k ys) → put_mid a k ys zs ≡ starts_with (l ++ d) xs
unfolding starts_with
part-behind a l d xs ys zs k e h ey ez =
    let rest : length (drop (length l) xs) ≤ k = simp length-drop (omega arith) in
    simp (e, ez, ey, take-append_seam l, drop-append_seam l, take_all k (drop (length l) xs) rest, drop_of_length-le (drop (length l) xs) rest, append-nil, drop-drop, append_assoc, length-append)
