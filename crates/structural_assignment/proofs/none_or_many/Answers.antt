-- Two tests, one after the other.
use Rattle.std.proofs.Common.{◌≡◌, ◌∙◌}
use Rattle.structural_assignment.specs.PerRecord.{undriven}
use Rattle.structural_assignment.proofs.Laws.{undriven-none, undriven-not, degree-tests}
use Rattle.structural_assignment.proofs.none_or_many.Goals as goal
use Rattle.structural_assignment.proofs.none_or_many.Goals.{then-d-eq0, else-d-eq0}

pub returns : goal.returns
returns c =
    let none : c.if-d-eq0.put_if ≡ undriven c.args.d c.args.outside =
    elim c.if-d-eq0.branch [
      | then-d-eq0 w ↦ w.put_if-is ∙ undriven-none _ _ w.if-d-eq0.true
      | else-d-eq0 w ↦ w.put_if-is ∙ undriven-not _ _ w.if-d-eq0.false
    ] in
    degree-tests _ _ _ _ none c.error-none.ensures c.error-many.ensures c.put_if.ensures c.put_if-2.ensures
