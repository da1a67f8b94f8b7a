-- Lists of diagnostics without an error: then none of their parts has one, and no error was asked for.
use Prim.Native.Nat.{ℕ, zero, suc, ◌<◌}
use native.Mathlib.Decide.{ℕ_discrete}
use native.Mathlib.Omega.{arith}
use mathlib.Core.Path.{◌≡◌, refl, sym, ap, ◌∙◌}
use mathlib.Core.Bool.{Bool, true, false, true≢false}
use mathlib.Core.List.{List, ◌++◌}
use Rattle.base.specs.Lists.{each, any, only}
use Rattle.oce_diag.specs.Diagnostics.{diagnostic, error, is_error, has_error}
use Rattle.oce_diag.specs.declared.Diagnostic.{Diagnostic}
use Rattle.oce_diag.specs.declared.DiagCode.{DiagCode}
use Rattle.oce_diag.specs.declared.Subject.{Subject}
use Rattle.base.proofs.Lists.{or_parts, any_append}

pub clean-append : (xs ys : List Diagnostic) → has_error (xs ++ ys) ≡ false → (has_error xs ≡ false) × (has_error ys ≡ false)
unfolding has_error
clean-append xs ys h = or_parts (any is_error xs) (any is_error ys) (sym (any_append is_error xs ys) ∙ h)

pub clean-each : (n : ℕ) (f : ℕ → List Diagnostic) → has_error (each n f) ≡ false → (i : ℕ) → i < n → has_error (f i) ≡ false
unfolding each
clean-each zero f h i l = absurd (omega arith)
clean-each (suc n) f h i l = arm (ℕ_discrete i n) (clean-append (each n f) (f n) h) (clean-each n f)
  where
    arm : Dec (i ≡ n) → (has_error (each n f) ≡ false) × (has_error (f n) ≡ false) → (has_error (each n f) ≡ false → (i : ℕ) → i < n → has_error (f i) ≡ false) → has_error (f i) ≡ false
    arm (yes e) p ih = ap (λ j. has_error (f j)) e ∙ p.1
    arm (no m) p ih = ih p.0 i (omega arith)

pub clean-only : (b : Bool) (code : DiagCode) (rule detail : ℕ) (s : Subject) (place : ℕ) → has_error (only b (error code rule detail s place)) ≡ false → b ≡ false
unfolding has_error any diagnostic
clean-only true c r d s p h = absurd (true≢false h)
clean-only false c r d s p h = refl
