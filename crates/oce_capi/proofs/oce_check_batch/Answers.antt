-- `oce_capi::oce_check_batch` meets its contract: that of the checking call for a batch, with the answer in numbers.
use mathlib.Core.Path.{ap, ◌∙◌}
use Rattle.oce_capi.specs.Numbers.{three_numbers}
use Rattle.oce_capi.proofs.oce_check_batch.Goals as goal

pub returns-clause-answer : goal.returns-clause-answer
returns-clause-answer c = c.in_three_numbers.ensures ∙ ap three_numbers c.check_batch.ensures.answer
