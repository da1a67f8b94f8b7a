-- `oce_capi::oce_check` meets its contract: that of the checking call, with the answer in numbers.
use mathlib.Core.Path.{ap, ◌∙◌}
use Rattle.oce_capi.specs.Numbers.{numbers}
use Rattle.oce_capi.proofs.Laws.{moved_by}
use Rattle.oce_capi.proofs.oce_check.Goals as goal

pub returns : goal.returns
returns c =
    let e = c.check.ensures in
    record {
      answer = c.in_numbers.ensures ∙ ap numbers e.answer;
      filled = e.filled;
      report = e.report;
      moved = moved_by e.answer e.moved;
    }
