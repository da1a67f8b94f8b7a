-- Every definition of this crate and of those below it, opened: a claim that is `unfolding computed` computes.
use Rattle.std.specs.Prelude.{ℕ}
use Rattle.printed.specs.Computed.{computed as computed_printed}
use Rattle.batch.specs.Computed.{computed as computed_batch}
use Rattle.printed_batch.specs.PrintedBatch.{image_line, refusal_line, image_text, image_texts, printed_batch}
use Rattle.printed_batch.specs.ReadBack.{counted_in, answer_in, image_pieces, pieces}

unfoldable pub computed : ℕ
unfolding computed_printed computed_batch image_line refusal_line image_text image_texts printed_batch counted_in answer_in image_pieces pieces
computed = 0
