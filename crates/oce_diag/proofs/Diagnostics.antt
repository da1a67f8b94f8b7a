-- Laws of the errors and warnings of a list: of two lists, together, and where there is no error.
use Prim.Native.Nat.{◌+◌, ◌<◌}
use native.Mathlib.Omega.{arith}
use mathlib.Core.Path.{◌≡◌, refl}
use mathlib.Core.Bool.{Bool, true, false, cond, not, ◌||◌}
use mathlib.Core.List.{List, [], ◌∷◌, ◌++◌}
use lib.ListN.{length, length-append}
use Rattle.base.specs.Lists.{keep, any}
use Rattle.base.proofs.Lists.{keep_append}
use Rattle.oce_diag.specs.Diagnostics.{is_error, has_error, errors, warnings}
use Rattle.oce_diag.specs.declared.Diagnostic.{Diagnostic}

abbrev is_warning : Diagnostic → Bool
is_warning d = not (is_error d)

-- ---- two lists

pub errors-append : (xs ys : List Diagnostic) → errors (xs ++ ys) ≡ errors xs + errors ys
unfolding errors
errors-append xs ys = rw (keep_append is_error xs ys) (length-append (keep is_error xs) (keep is_error ys))

pub warnings-append : (xs ys : List Diagnostic) → warnings (xs ++ ys) ≡ warnings xs + warnings ys
unfolding warnings
warnings-append xs ys = rw (keep_append is_warning xs ys) (length-append (keep is_warning xs) (keep is_warning ys))

-- ---- together

-- every diagnostic is an error or a warning
pub errors-warnings : (ds : List Diagnostic) → errors ds + warnings ds ≡ length ds
unfolding errors warnings keep
errors-warnings [] = refl
errors-warnings (d ∷ ds) = arm (is_error d) (keep is_error ds) (keep is_warning ds) (errors-warnings ds)
  where
    arm : (b : Bool) (e w : List Diagnostic) → length e + length w ≡ length ds → length (cond b (d ∷ e) e) + length (cond (not b) (d ∷ w) w) ≡ length (d ∷ ds)
    arm true e w h = omega arith
    arm false e w h = omega arith

-- ---- no error

pub no-errors : (ds : List Diagnostic) → errors ds ≡ 0 → has_error ds ≡ false
unfolding errors has_error keep any
no-errors [] h = refl
no-errors (d ∷ ds) h = arm (is_error d) h (no-errors ds)
  where
    arm : (b : Bool) → length (cond b (d ∷ keep is_error ds) (keep is_error ds)) ≡ 0 → (length (keep is_error ds) ≡ 0 → has_error ds ≡ false) → (b || has_error ds) ≡ false
    arm true h ih = absurd (omega arith)
    arm false h ih = ih h

pub some-error : (ds : List Diagnostic) → 0 < errors ds → has_error ds ≡ true
unfolding errors has_error keep any
some-error [] l = absurd (omega arith)
some-error (d ∷ ds) l = arm (is_error d) l (some-error ds)
  where
    arm : (b : Bool) → 0 < length (cond b (d ∷ keep is_error ds) (keep is_error ds)) → (0 < length (keep is_error ds) → has_error ds ≡ true) → (b || has_error ds) ≡ true
    arm true h ih = refl
    arm false h ih = ih h
