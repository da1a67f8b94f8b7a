-- `base::copy_at` meets its contract: after i turns i bytes are pasted.
use mathlib.Core.Path.{◌≡◌, refl, sym, ◌∙◌}
use mathlib.Core.List.{List}
use Prim.Native.Nat.{ℕ, ◌+◌, ◌≤◌, ◌<◌}
use native.Mathlib.Omega.{arith}
use native.Mathlib.Numerals.{add-one}
use lib.ListN.{length, get_or, set, length-set}
use lib.Seq.{paste-zero, paste-suc}
use Rattle.base.specs.Buffers.{patch}
use Rattle.base.proofs.Buffers.{patch-paste}
use Rattle.base.proofs.copy_at.Invariants.{Copied}
use Rattle.base.proofs.copy_at.Goals as goal

none : {dst src : List ℕ} {at : ℕ} → Copied dst at src dst 0
none {dst} {src} {at} = record { within = omega arith; pasted = paste-zero dst at src; long = refl }

turn : {dst₀ src dst : List ℕ} {at i : ℕ} → at + length src ≤ length dst₀ → i < length src → Copied dst₀ at src dst i
    → Copied dst₀ at src (set dst (at + i) (get_or src i 0)) (i + 1)
turn {dst₀} {src} {dst} {at} {i} room h v = record {
  within = omega arith;
  pasted = rw (v.pasted, paste-suc dst₀ at src i 0 (omega arith), add-one);
  long = simp length-set v.long;
}

done : {dst₀ src dst : List ℕ} {at i : ℕ} → length src ≤ i → Copied dst₀ at src dst i → dst ≡ patch dst₀ at src
done {dst₀} {src} {dst} {at} {i} h v =
    let e : i ≡ length src = omega arith in
    v.pasted ∙ rw e (sym (patch-paste dst₀ at src))

pub loop-i-init : goal.loop-i-init
loop-i-init c = none

pub loop-i-preserved : goal.loop-i-preserved
loop-i-preserved c = search turn

pub returns : goal.returns
returns c = search done
