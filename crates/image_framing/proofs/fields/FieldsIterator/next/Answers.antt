-- `Fields::next` meets its contract: by whether a whole field stands there.
use native.Mathlib.Omega.{arith}
use mathlib.Core.Path.{sym, ap, ◌∙◌}
use lib.ListN.{length}
use borrow.Author.Rules.{rules}
use Rattle.image_framing.proofs.Rests.{rest-none, rest-next}
use Rattle.image_framing.proofs.fields.FieldsIterator.next.Goals as goal

pub returns-in_err-l-clause-steps : goal.returns-in_err-l-clause-steps
returns-in_err-l-clause-steps c =
    let e = sym c.self.view_is ∙ rest-none _ _ _ _ c.in_err-l.ensures.whole in
    rw c.from_residual.ensures (e, e)

pub returns-clause-steps : goal.returns-clause-steps
returns-clause-steps c = search (rest-next, rules)

pub returns-clause-goes : goal.returns-clause-goes
returns-clause-goes c =
    let e = returns-clause-steps c in
    record { on = λ _. (tt, tt, omega (arith, ap length e)); keeps = tt; rests = λ _. tt }
