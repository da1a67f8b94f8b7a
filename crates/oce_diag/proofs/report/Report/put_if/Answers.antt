use Rattle.std.proofs.Common.{rules, refl}
use Rattle.oce_diag.proofs.Reporting.{puts-only, puts-skip}
use Rattle.oce_diag.proofs.report.Report.put_if.Goals as goal

pub returns-then-bad : goal.returns-then-bad
returns-then-bad c = search (puts-only, refl, rules)

pub returns-else-bad : goal.returns-else-bad
returns-else-bad c = search (puts-skip, rules)
