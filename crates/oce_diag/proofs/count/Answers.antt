-- `oce_diag::count` meets its contract: what one diagnostic adds goes by its severity.
use Prim.Native.Nat.{ℕ, ◌+◌}
use native.Mathlib.Omega.{arith}
use mathlib.Core.Path.{◌≡◌}
use mathlib.Core.List.{[], ◌∷◌}
use borrow.Author.Rules.{rules}
use Rattle.base.specs.Lists.{keep}
use Rattle.oce_diag.specs.Diagnostics.{errors, warnings}
use Rattle.oce_diag.specs.declared.Severity.TheVariants.{Error, Warning}
use Rattle.oce_diag.specs.declared.Diagnostic.{Diagnostic}
use Rattle.oce_diag.proofs.count.Goals as goal

module _ (n : ℕ) (d : Diagnostic) where
  error-errors : d.severity ≡ Error → n + 1 ≡ n + errors (d ∷ [])
  unfolding errors keep
  error-errors e = rw e

  error-warnings : d.severity ≡ Error → n ≡ n + warnings (d ∷ [])
  unfolding warnings keep
  error-warnings e = rw e (omega arith)

  warning-errors : d.severity ≡ Warning → n ≡ n + errors (d ∷ [])
  unfolding errors keep
  warning-errors e = rw e (omega arith)

  warning-warnings : d.severity ≡ Warning → n + 1 ≡ n + warnings (d ∷ [])
  unfolding warnings keep
  warning-warnings e = rw e

ruleset mine = (error-errors, error-warnings, warning-errors, warning-warnings, rules)

pub returns-in-Error : goal.returns-in-Error
returns-in-Error c = search mine

pub returns-in-Warning : goal.returns-in-Warning
returns-in-Warning c = search mine
