-- Every definition of this crate and of those below it, opened: a claim that is `unfolding computed` computes.
use Rattle.std.specs.Prelude.{ℕ}
use Rattle.subject.specs.Computed.{computed as computed_subject}
use Rattle.outcome.specs.Computed.{computed as computed_outcome}
use Rattle.printed.specs.Printed.{severity_name, code_name, subject_field, line, lines, first_line, printed, lines_from}

unfoldable pub computed : ℕ
unfolding computed_subject computed_outcome severity_name code_name subject_field line lines first_line printed lines_from
computed = 0
