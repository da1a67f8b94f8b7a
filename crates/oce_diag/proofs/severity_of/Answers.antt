-- `oce_diag::severity_of` meets its contract: by the number.
use borrow.Author.Rules.{rules}
use borrow.Author.Tests.{eq-eqb, ne_eqb}
use Rattle.oce_diag.specs.Decoded.{severity_of}
use Rattle.oce_diag.proofs.severity_of.Goals as goal

pub returns-then-n : goal.returns-then-n
unfolding severity_of
returns-then-n c = search (eq-eqb, rules)

pub returns : goal.returns
unfolding severity_of
returns c = search (ne_eqb, rules)
