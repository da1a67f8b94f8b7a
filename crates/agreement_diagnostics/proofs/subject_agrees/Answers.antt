-- `agreement_diagnostics::subject_agrees` meets its contract: the text that is written and read is the subject's.
use borrow.Author.Rules.{rules}
use Rattle.agreement_diagnostics.proofs.Laws.{subject-same}
use Rattle.agreement_diagnostics.proofs.subject_agrees.Goals as goal

pub returns : goal.returns
returns c = subject-same _ _ _ _ _ c.same_bytes.ensures c.subject-ours.ensures c.write_subject.ensures.scratch c.subject_kind-kind.ensures c.subject_number-number.ensures (search rules) c.part_of.ensures c.at16-len.ensures.0
