-- `oce_diag::subject_of` meets its contract: a connector's iri where there is one, else the id.
use borrow.Author.Rules.{rules}
use borrow.Author.Tests.{eq-eqb, ne_eqb}
use Rattle.oce_diag.specs.Diagnostics.{connector_subject}
use Rattle.oce_diag.proofs.subject_of.Goals as goal

pub returns-then-iri-eq-NO_TEXT : goal.returns-then-iri-eq-NO_TEXT
unfolding connector_subject
returns-then-iri-eq-NO_TEXT c = search (eq-eqb, rules)

pub returns : goal.returns
unfolding connector_subject
returns c = search (ne_eqb, rules)
