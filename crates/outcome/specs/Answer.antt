-- The answer of a checking call, and what it leaves in its two buffers. FORMAT 1 and 6.
use Rattle.std.specs.Prelude.{ℕ, ◌*◌, cond, List, [], ◌∷◌, length, ltb}
use Rattle.std.specs.Prelude.{Option, Some, None, Result, Ok, Err}
use Rattle.base.specs.Buffers.{starts_with}
use Rattle.oce_model.specs.Model.{model_of}
use Rattle.oce_model.specs.Refusals.{refusal}
use Rattle.oce_model.specs.declared.Refusal.{Refusal}
use Rattle.oce_diag.specs.Diagnostics.{errors, warnings}
use Rattle.oce_diag.specs.Encoding.{diagnostic_size, report_bytes}
use Rattle.oce_diag.specs.declared.Counted.{Counted}
use Rattle.oce_diag.specs.declared.Diagnostic.{Diagnostic}
use Rattle.outcome.specs.Report.{report}
use Rattle.outcome.specs.Filled.{filled_of}

-- how many errors and warnings a report holds, or the refusal
abbrev pub Answer : Type 0
Answer = Result Counted Refusal

-- the report of an image
unfoldable pub report_of : List ℕ → List Diagnostic
report_of s = report (model_of s)

-- the bytes that a report needs
abbrev pub report_size : List Diagnostic → ℕ
report_size ds = diagnostic_size * length ds

-- The answer where refusals 1 to 8 give the last argument: the first of them; else 9, with the bytes needed, if the filled buffer is shorter than the image; else 10,
-- likewise, if the report buffer is shorter than the report; else the report's errors and warnings. The two numbers are the buffers' lengths. FORMAT 6
abbrev pub answer_for : List ℕ → ℕ → ℕ → Option Refusal → Answer
answer_for s filled_room report_room (Some r) = Err r
answer_for s filled_room report_room None =
    let ds = report_of s in
    cond (ltb filled_room (length s)) (Err (record { number = 9; offset = length s }))
    (cond (ltb report_room (report_size ds)) (Err (record { number = 10; offset = report_size ds }))
    (Ok (record { errors = errors ds; warnings = warnings ds })))

unfoldable pub answer : List ℕ → ℕ → ℕ → Answer
answer s filled_room report_room = answer_for s filled_room report_room (refusal s)

-- an answer as numbers: a refusal's number and offset; 0, no refusal, then errors and warnings
abbrev pub numbers_of : Answer → List ℕ
numbers_of (Err r) = r.number ∷ r.offset ∷ []
numbers_of (Ok c) = 0 ∷ c.errors ∷ c.warnings ∷ []

-- ---- the two buffers after a call, FORMAT 1: s is the image, f and r are the filled buffer and the report buffer before it

-- under a refusal a buffer holds what it held
abbrev pub if_checked : Answer → List ℕ → List ℕ → List ℕ
if_checked (Err r) new old = old
if_checked (Ok c) new old = new

-- otherwise it starts with the filled image, with the diagnostics, and bytes behind are untouched
unfoldable pub filled_after : List ℕ → List ℕ → List ℕ → List ℕ
filled_after s f r = if_checked (answer s (length f) (length r)) (starts_with (filled_of s) f) f

unfoldable pub report_after : List ℕ → List ℕ → List ℕ → List ℕ
report_after s f r = if_checked (answer s (length f) (length r)) (starts_with (report_bytes (report_of s)) r) r
