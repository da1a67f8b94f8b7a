-- `oce_validate::check` meets its contract: the three equations, and by them the theorem about values that move along connections.
use native.Mathlib.Omega.{arith}
use mathlib.Core.Path.{ap}
use Rattle.outcome.specs.Answer.{numbers_of}
use Rattle.moved.proofs.Moved.{moved}
use Rattle.oce_validate.proofs.check.Goals as goal

pub returns : goal.returns
returns c =
    let start = c.args in
    let each = c.type_inv.image in
    let e = c.check_any.ensures in
    record {
      answer = e.answer;
      numbers = ap numbers_of e.answer;
      filled = e.filled;
      report = e.report;
      moved = moved start.image.now start.filled.now start.report.now _ _ _ (λ i. omega (arith, each i)) e.answer e.filled e.report;
    }
