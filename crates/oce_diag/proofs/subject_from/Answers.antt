-- `oce_diag::subject_from` meets its contract: by the kind.
use borrow.Author.Rules.{rules}
use borrow.Author.Tests.{ne_eqb}
use Rattle.oce_diag.specs.Decoded.{subject_from}
use Rattle.oce_diag.proofs.subject_from.Goals as goal

pub returns-in_default : goal.returns-in_default
unfolding subject_from
returns-in_default c = search (ne_eqb, rules)
