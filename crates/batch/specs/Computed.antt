-- Every definition of this crate and of those below it, opened: a claim that is `unfolding computed` computes.
use Rattle.std.specs.Prelude.{ℕ}
use Rattle.outcome.specs.Computed.{computed as computed_below}
use Rattle.batch.specs.Fields.{bad_field, first_fault, images}
use Rattle.batch.specs.Output.{summary_of, summary_field, image_report, image_output, output_of, batch_output}
use Rattle.batch.specs.Answer.{answer_with, batch_answer, output_after}
use Rattle.batch.specs.Packed.{pack}

unfoldable pub computed : ℕ
unfolding computed_below bad_field first_fault images summary_of summary_field image_report image_output output_of batch_output answer_with batch_answer output_after pack
computed = 0
