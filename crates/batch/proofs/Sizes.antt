-- How many bytes an image's field, its report and its part of the output have.
use Prim.Native.Nat.{ℕ, ◌*◌}
use mathlib.Core.Path.{◌≡◌, refl, ◌∙◌}
use mathlib.Core.List.{List}
use Rattle.std.specs.Prelude.{Option, Some, None, Ok, Err}
use lib.ListN.{length, length-append}
use Rattle.numbers.specs.Bytes.{le_bytes}
use Rattle.oce_model.specs.Refusals.{refusal}
use Rattle.oce_model.specs.declared.Refusal.{Refusal}
use Rattle.oce_diag.specs.Encoding.{diagnostic_size}
use Rattle.oce_diag.proofs.Diagnostics.{errors-warnings}
use Rattle.oce_diag.proofs.Encoding.{report_bytes-length}
use Rattle.outcome.specs.Answer.{Answer, report_of}
use Rattle.batch.specs.Output.{summary_size, summary_by, summary_of, summary_field, summary_bytes, count_of, size_of, report_by, image_report, image_output}

pub summary_bytes-length : (a : Answer) → length (summary_bytes a) ≡ summary_size
unfolding summary_field le_bytes
summary_bytes-length (Ok c) = refl
summary_bytes-length (Err r) = refl

-- as many diagnostics as its field counts
pub report-long : (t : List ℕ) → length (image_report t) ≡ diagnostic_size * count_of (summary_of t)
unfolding image_report summary_of
report-long t = arm (refusal t)
  where
    arm : (o : Option Refusal) → length (report_by t o) ≡ diagnostic_size * count_of (summary_by t o)
    arm None = rw (report_bytes-length (report_of t), errors-warnings (report_of t))
    arm (Some r) = refl

pub output-long : (t : List ℕ) → length (image_output t) ≡ size_of (summary_of t)
unfolding image_output
output-long t = length-append (summary_bytes (summary_of t)) (image_report t) ∙ rw (summary_bytes-length (summary_of t), report-long t)
