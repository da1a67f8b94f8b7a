-- Laws of a report that diagnostics are put into: one run after another, and a loop that puts some in each turn.
use Prim.Native.Nat.{ℕ, suc, ◌+◌, ◌*◌, ◌≤◌, ◌<◌}
use native.Mathlib.Nat.{add-zero}
use native.Mathlib.Omega.{arith}
use mathlib.Core.Path.{◌≡◌, refl, sym, ◌∙◌}
use mathlib.Core.Bool.{Bool, true, false, cond}
use mathlib.Core.List.{List, [], ◌∷◌, ◌++◌}
use lib.Dec.{leb}
use lib.ListN.{length}
use borrow.Author.Tests.{le-leb, lt-leb, leb-true}
use Rattle.base.specs.Lists.{keep, only}
use Rattle.base.specs.Buffers.{patch, starts_with}
use Rattle.base.proofs.Buffers.{patch-none, patch-length, patch-patch, starts_with-patch}
use Rattle.oce_diag.specs.Diagnostics.{errors, warnings}
use Rattle.oce_diag.specs.Encoding.{diagnostic_size, diagnostic_bytes, report_bytes}
use Rattle.oce_diag.specs.Putting.{put_one, put_all, total, Put}
use Rattle.oce_diag.specs.declared.Diagnostic.{Diagnostic}
use Rattle.oce_diag.specs.declared.Counted.{Counted}
use Rattle.oce_diag.proofs.Diagnostics.{errors-append, warnings-append, errors-warnings}
use Rattle.oce_diag.proofs.Encoding.{diagnostic_bytes-length}

-- ---- one diagnostic

module _ (b : List ℕ) (n : ℕ) (d : Diagnostic) where
  pub put_one-room : diagnostic_size * n + diagnostic_size ≤ length b → put_one b n d ≡ patch b (diagnostic_size * n) (diagnostic_bytes d)
  unfolding put_one
  put_one-room h = simp (le-leb _ _ h)

  pub put_one-full : length b < diagnostic_size * n + diagnostic_size → put_one b n d ≡ b
  unfolding put_one
  put_one-full h = simp (lt-leb _ _ h)

  pub put_one-length : length (put_one b n d) ≡ length b
  unfolding put_one
  put_one-length = arm (leb (diagnostic_size * n + diagnostic_size) (length b)) refl
    where
      arm : (t : Bool) → leb (diagnostic_size * n + diagnostic_size) (length b) ≡ t → length (cond t (patch b (diagnostic_size * n) (diagnostic_bytes d)) b) ≡ length b
      arm true e =
          let room : diagnostic_size * n + diagnostic_size ≤ length b = leb-true _ _ e in
          patch-length b (diagnostic_size * n) (diagnostic_bytes d) (rw (diagnostic_bytes-length d) room)
      arm false e = refl

-- ---- a list of them

pub put_all-length : (ds : List Diagnostic) (b : List ℕ) (n : ℕ) → length (put_all b n ds) ≡ length b
unfolding put_all
put_all-length [] b n = refl
put_all-length (d ∷ ds) b n = put_all-length ds (put_one b n d) (suc n) ∙ put_one-length b n d

pub put_all-append : (xs ys : List Diagnostic) (b : List ℕ) (n : ℕ) → put_all b n (xs ++ ys) ≡ put_all (put_all b n xs) (n + length xs) ys
unfolding put_all
put_all-append [] ys b n = rw add-zero
put_all-append (x ∷ xs) ys b n =
    let e : suc n + length xs ≡ n + suc (length xs) = omega arith in
    put_all-append xs ys (put_one b n x) (suc n) ∙ rw e

-- where there is room for all, their bytes stand one after the other
pub put_all-room : (ds : List Diagnostic) (b : List ℕ) (n : ℕ) → diagnostic_size * n + diagnostic_size * length ds ≤ length b
    → put_all b n ds ≡ patch b (diagnostic_size * n) (report_bytes ds)
unfolding put_all report_bytes
put_all-room [] b n h = sym (patch-none b (diagnostic_size * n))
put_all-room (d ∷ ds) b n h =
    let at = diagnostic_size * n in
    let bs = diagnostic_bytes d in
    let k : length bs ≡ diagnostic_size = diagnostic_bytes-length d in
    let e : diagnostic_size * suc n ≡ at + length bs = omega arith in
    let room : at + length bs ≤ length b = omega arith in
    let long : length (patch b at bs) ≡ length b = patch-length b at bs room in
    rw (put_one-room b n d (omega arith), put_all-room ds (patch b at bs) (suc n) (omega arith), e) (patch-patch b at bs (report_bytes ds) room)

-- ---- how a report grows

module _ {b : List ℕ} {c : Counted} where
  pub put-none : Put b c [] b c
  unfolding put_all errors warnings keep
  put-none = record { errors = omega arith; warnings = omega arith; bytes = refl }

  pub put-one : {b' : List ℕ} {c' : Counted} {d : Diagnostic}
      → b' ≡ put_one b (total c) d → c'.errors ≡ c.errors + errors (d ∷ []) → c'.warnings ≡ c.warnings + warnings (d ∷ []) → Put b c (d ∷ []) b' c'
  unfolding put_all
  put-one f e w = record { errors = e; warnings = w; bytes = f }

  pub put-total : {ds : List Diagnostic} {b' : List ℕ} {c' : Counted} → Put b c ds b' c' → total c' ≡ total c + length ds
  put-total {ds} p = omega (arith, errors-warnings ds, p.errors, p.warnings)

-- one run after another
pub put_then : {b b' b'' : List ℕ} {c c' c'' : Counted} {xs ys : List Diagnostic} → Put b c xs b' c' → Put b' c' ys b'' c'' → Put b c (xs ++ ys) b'' c''
put_then {b} {c = c} {xs = xs} {ys} p q = record {
  errors = rw (errors-append xs ys) (omega (arith, p.errors, q.errors));
  warnings = rw (warnings-append xs ys) (omega (arith, p.warnings, q.warnings));
  bytes = q.bytes ∙ rw (p.bytes, put-total p) (sym (put_all-append xs ys b (total c)));
}

-- ---- by a test

module _ {b b' : List ℕ} {c c' : Counted} {t : Bool} where
  -- one that passes, where x is the diagnostic d
  pub put_only : {x d : Diagnostic} → Put b c (x ∷ []) b' c' → x ≡ d → t ≡ true → Put b c (only t d) b' c'
  put_only p f e = rw (e, ← f) p

-- one that fails
pub put-skip : {b : List ℕ} {c : Counted} {t : Bool} (d : Diagnostic) → t ≡ false → Put b c (only t d) b c
put-skip d e = rw e put-none

-- ---- what a run leaves

module _ {b : List ℕ} {c : Counted} {ds : List Diagnostic} {b' : List ℕ} {c' : Counted} (p : Put b c ds b' c') where
  pub put-length : length b' ≡ length b
  put-length = rw p.bytes (put_all-length ds b (total c))

  -- a run with nothing counted before it counts its own, and leaves their bytes where there is room for all
  pub put-errors : total c ≡ 0 → c'.errors ≡ errors ds
  put-errors h = omega (arith, p.errors)

  pub put-warnings : total c ≡ 0 → c'.warnings ≡ warnings ds
  put-warnings h = omega (arith, p.warnings)

  pub put-room : total c ≡ 0 → diagnostic_size * length ds ≤ length b → b' ≡ starts_with (report_bytes ds) b
  put-room h room = p.bytes ∙ rw h (put_all-room ds b 0 (omega arith) ∙ sym (starts_with-patch (report_bytes ds) b))
