-- What the output holds: for each image a field that sums up its check, then its report. FORMAT 22.
use Rattle.std.specs.Prelude.{ℕ, ◌+◌, ◌*◌, List, [], ◌∷◌, ◌++◌, length}
use Rattle.std.specs.Prelude.{Option, Some, None, Ok, Err}
use Rattle.numbers.specs.Bytes.{le_bytes}
use Rattle.oce_model.specs.Format.{leading_bytes}
use Rattle.oce_model.specs.Refusals.{refusal}
use Rattle.oce_model.specs.declared.Refusal.{Refusal}
use Rattle.oce_diag.specs.Diagnostics.{errors, warnings}
use Rattle.oce_diag.specs.Encoding.{diagnostic_size, report_bytes}
use Rattle.oce_diag.specs.Putting.{total}
use Rattle.oce_diag.specs.declared.Counted.{Counted}
use Rattle.outcome.specs.Answer.{Answer, report_of}
use Rattle.batch.specs.Fields.{images}

-- the tag of the field that sums up an image's check, the bytes of its contents, and of all of it
abbrev pub summary_tag : ℕ
summary_tag = 0x31

abbrev pub summary_length : ℕ
summary_length = 13

abbrev pub summary_size : ℕ
summary_size = leading_bytes + summary_length

-- where its numbers stand in it, from its tag
abbrev pub refusal_place : ℕ
refusal_place = leading_bytes

abbrev pub offset_place : ℕ
offset_place = refusal_place + 1

abbrev pub errors_place : ℕ
errors_place = offset_place + 4

abbrev pub warnings_place : ℕ
warnings_place = errors_place + 4

-- What sums up an image is the answer for it with all the room that it needs: its refusal if it is turned away, otherwise its report's errors and warnings.
abbrev pub summary_by : List ℕ → Option Refusal → Answer
summary_by s (Some r) = Err r
summary_by s None = let ds = report_of s in Ok (record { errors = errors ds; warnings = warnings ds })

unfoldable pub summary_of : List ℕ → Answer
summary_of s = summary_by s (refusal s)

-- how many diagnostics an answer counts
abbrev pub count_of : Answer → ℕ
count_of (Err r) = 0
count_of (Ok c) = total c

-- the bytes of an image's field and report, by its answer
abbrev pub size_of : Answer → ℕ
size_of a = summary_size + diagnostic_size * count_of a

-- where there is no refusal, and where nothing is counted
abbrev pub no_refusal : Refusal
no_refusal = record { number = 0; offset = 0 }

abbrev pub none_counted : Counted
none_counted = record { errors = 0; warnings = 0 }

-- the field: tag, length, the refusal's number in a byte, the others in four each
unfoldable pub summary_field : Refusal → Counted → List ℕ
summary_field r c =
    summary_tag ∷ le_bytes 2 summary_length
    ++ le_bytes 1 r.number ++ le_bytes 4 r.offset ++ le_bytes 4 c.errors ++ le_bytes 4 c.warnings

-- that of an answer
abbrev pub summary_bytes : Answer → List ℕ
summary_bytes (Err r) = summary_field r none_counted
summary_bytes (Ok c) = summary_field no_refusal c

-- the report behind it: all diagnostics, none of an image that is turned away
abbrev pub report_by : List ℕ → Option Refusal → List ℕ
report_by s (Some r) = []
report_by s None = report_bytes (report_of s)

unfoldable pub image_report : List ℕ → List ℕ
image_report s = report_by s (refusal s)

-- an image's part of the output
unfoldable pub image_output : List ℕ → List ℕ
image_output s = summary_bytes (summary_of s) ++ image_report s

-- the parts of images, one behind the other
unfoldable pub output_of : List (List ℕ) → List ℕ
output_of [] = []
output_of (s ∷ ss) = image_output s ++ output_of ss

-- the whole output of a batch, and its bytes
unfoldable pub batch_output : List ℕ → List ℕ
batch_output s = output_of (images s)

abbrev pub bytes_needed : List ℕ → ℕ
bytes_needed s = length (batch_output s)
