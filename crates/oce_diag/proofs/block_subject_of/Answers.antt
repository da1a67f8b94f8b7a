-- `oce_diag::block_subject_of` meets its contract: a block's instance where there is one, else the id.
use borrow.Author.Rules.{rules}
use borrow.Author.Tests.{eq-eqb, ne_eqb}
use Rattle.oce_diag.specs.Diagnostics.{block_subject}
use Rattle.oce_diag.proofs.block_subject_of.Goals as goal

pub returns-then-instance-eq-NO_TEXT : goal.returns-then-instance-eq-NO_TEXT
unfolding block_subject
returns-then-instance-eq-NO_TEXT c = search (eq-eqb, rules)

pub returns : goal.returns
unfolding block_subject
returns c = search (ne_eqb, rules)
