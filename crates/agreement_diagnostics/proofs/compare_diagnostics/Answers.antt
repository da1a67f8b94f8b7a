-- `agreement_diagnostics::compare_diagnostics` meets its contract: a diagnostic a turn, as long as they agree.
use borrow.Author.Rules.{rules}
use Rattle.agreement_diagnostics.proofs.Laws.{agreed-start, agreed-turn, agreed-differs, agreed-past, agreed-end}
use Rattle.agreement_diagnostics.proofs.compare_diagnostics.Goals as goal

pub loop-n-init : goal.loop-n-init
loop-n-init c = agreed-start

pub returns-then-file-at : goal.returns-then-file-at
returns-then-file-at c = search (agreed-past, rules)

pub returns-then-not-diagnostic_agrees : goal.returns-then-not-diagnostic_agrees
returns-then-not-diagnostic_agrees c = search (agreed-differs, rules)

pub loop-n-preserved : goal.loop-n-preserved
loop-n-preserved c = search (agreed-turn, rules)

pub returns : goal.returns
returns c = search (agreed-end, rules)
