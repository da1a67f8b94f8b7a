-- `agreement_diagnostics::compare_diagnostics` meets its contract: a diagnostic a turn, as long as they agree.
use Rattle.outcome.specs.Answer.{report_of}
use Rattle.agreement_diagnostics.specs.Diagnostics.{Agreed}
use Rattle.agreement_diagnostics.proofs.compare_diagnostics.Given as goal

abbrev pub invariant-loop-n : goal.invariant-loop-n
invariant-loop-n l = Agreed l.file l.at-2 l.image (report_of l.image) l.at l.n
