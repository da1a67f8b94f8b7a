-- Every definition of this crate and of those below it, opened: a claim that is `unfolding computed` computes.
use Rattle.std.specs.Prelude.{ℕ}
use Rattle.unify.specs.Computed.{computed as computed_below}
use Rattle.outcome.specs.Report.{rules_before6, report, final_slots}
use Rattle.outcome.specs.Filled.{slot_offsets, with_slots, filled_of}
use Rattle.outcome.specs.Answer.{report_of, answer, filled_after, report_after}

unfoldable pub computed : ℕ
unfolding computed_below rules_before6 report final_slots slot_offsets with_slots filled_of report_of answer filled_after report_after
computed = 0
