-- `oce_diag::code_of` meets its contract: by the number.
use borrow.Author.Rules.{rules}
use borrow.Author.Tests.{ne_eqb}
use Rattle.oce_diag.specs.Decoded.{code_of}
use Rattle.oce_diag.proofs.Decoded.{code_is}
use Rattle.oce_diag.proofs.code_of.Goals as goal

pub returns-in_default : goal.returns-in_default
unfolding code_of
returns-in_default c = search (ne_eqb, rules)

pub returns-in-1 : goal.returns-in-1
returns-in-1 c = search (code_is, rules)

pub returns-in-2 : goal.returns-in-2
returns-in-2 c = search (code_is, rules)

pub returns-in-3 : goal.returns-in-3
returns-in-3 c = search (code_is, rules)

pub returns-in-4 : goal.returns-in-4
returns-in-4 c = search (code_is, rules)

pub returns-in-5 : goal.returns-in-5
returns-in-5 c = search (code_is, rules)

pub returns-in-6 : goal.returns-in-6
returns-in-6 c = search (code_is, rules)

pub returns-in-7 : goal.returns-in-7
returns-in-7 c = search (code_is, rules)
