use Rattle.std.proofs.Common.{rules}
use Rattle.oce_validate.proofs.Laws.{early-copied, report-written}
use Rattle.oce_validate.proofs.leave_report.Goals as goal

pub returns-then-size-early : goal.returns-then-size-early
returns-then-size-early c = early-copied c.requires.0 _ _ c.requires.1 c.size_of-size.ensures c.if-size-early.true c.copy_at.ensures

pub returns-else-size-early : goal.returns-else-size-early
returns-else-size-early c = search (report-written, rules)
