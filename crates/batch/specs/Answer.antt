-- The answer of a call for a batch, and what it leaves in the output buffer. FORMAT 22.
use Rattle.std.specs.Prelude.{ℕ, cond, List, [], ◌∷◌, ltb, length}
use Rattle.std.specs.Prelude.{Option, Some, None, Result, Ok, Err}
use Rattle.base.specs.Buffers.{starts_with}
use Rattle.batch.specs.Fields.{first_fault}
use Rattle.batch.specs.Output.{batch_output, bytes_needed}
use Rattle.batch.specs.declared.BatchRefusal.{BatchRefusal}

-- the bytes written, or the refusal
abbrev pub BatchAnswer : Type 0
BatchAnswer = Result ℕ BatchRefusal

-- 12, with the bytes needed, if the output buffer is shorter than the output; else the bytes written. The second number is the buffer's length
unfoldable pub answer_with : ℕ → ℕ → BatchAnswer
answer_with needed room = cond (ltb room needed) (Err (record { number = 12; offset = needed })) (Ok needed)

-- 11 is asked of the whole batch, then 12
abbrev pub batch_answer_for : List ℕ → ℕ → Option ℕ → BatchAnswer
batch_answer_for s room (Some at) = Err (record { number = 11; offset = at })
batch_answer_for s room None = answer_with (bytes_needed s) room

unfoldable pub batch_answer : List ℕ → ℕ → BatchAnswer
batch_answer s room = batch_answer_for s room (first_fault s)

-- an answer as numbers: the refusal or 0, the field's offset or the bytes needed, the bytes written; 0 where there is none
abbrev pub batch_numbers : BatchAnswer → List ℕ
batch_numbers (Err r) = r.number ∷ r.offset ∷ 0 ∷ []
batch_numbers (Ok n) = 0 ∷ 0 ∷ n ∷ []

-- under a refusal the output buffer holds what it held; otherwise it starts with the output, and bytes behind are untouched
abbrev pub if_written : BatchAnswer → List ℕ → List ℕ → List ℕ
if_written (Err r) new old = old
if_written (Ok n) new old = new

-- the output buffer after a call: s is the batch, o the buffer before it
unfoldable pub output_after : List ℕ → List ℕ → List ℕ
output_after s o = if_written (batch_answer s (length o)) (starts_with (batch_output s) o) o
