-- What rule 3 reports, from what was found of an input.
use Rattle.std.specs.Prelude.{ℕ, Bool, not, ◌&&◌, List, ◌++◌, eqb, ltb}
use Rattle.base.specs.Lists.{only}
use Rattle.oce_diag.specs.Diagnostics.{error}
use Rattle.oce_diag.specs.declared.Diagnostic.{Diagnostic}
use Rattle.oce_diag.specs.declared.Subject.{Subject}
use Rattle.oce_diag.specs.declared.DiagCode.TheVariants.{SingleAssignment}

-- nothing drives an input, by its degree and by whether it is external
unfoldable pub undriven : ℕ → Bool → Bool
undriven degree external = eqb degree 0 && not external

-- what is reported of input i, by the same
unfoldable pub degree_faults : ℕ → Subject → ℕ → Bool → List Diagnostic
degree_faults i subject degree external =
    only (undriven degree external) (error SingleAssignment 3 1 subject i)
    ++ only (ltb 1 degree) (error SingleAssignment 3 2 subject degree)

-- the most that is reported of an input
abbrev pub most_assignment_faults : ℕ
most_assignment_faults = 2
