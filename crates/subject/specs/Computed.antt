-- Every definition of this crate and of those below it, opened: a claim that is `unfolding computed` computes.
use Rattle.std.specs.Prelude.{ℕ}
use Rattle.oce_diag.specs.Computed.{computed as computed_diagnostics}
use Rattle.decimal.specs.Computed.{computed as computed_decimal}
use Rattle.subject.specs.Subject.{labelled, subject_text, if_room, written, scratch_after, part_of, part}

unfoldable pub computed : ℕ
unfolding computed_diagnostics computed_decimal labelled subject_text if_room written scratch_after part_of part
computed = 0
