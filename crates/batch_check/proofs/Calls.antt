-- Each way that a call can end gives what the definitions say.
use Prim.Native.Nat.{ℕ, ◌-◌, ◌≤◌, ◌<◌}
use native.Mathlib.Omega.{arith}
use mathlib.Core.Path.{◌≡◌, sym, ap, ◌∙◌}
use mathlib.Core.List.{List}
use lib.ListN.{length, take}
use borrow.Author.Tests.{lt-ltb, le-ltb}
use Rattle.base.specs.Buffers.{patch, starts_with}
use Rattle.base.proofs.Buffers.{starts_with-patch}
use Rattle.std.specs.Prelude.{Option, Some, Ok, Err}
use Rattle.outcome.specs.Answer.{Answer}
use Rattle.batch.specs.Fields.{first_fault}
use Rattle.batch.specs.Output.{batch_output, bytes_needed}
use Rattle.batch.specs.Answer.{BatchAnswer, answer_with, batch_answer, batch_numbers, output_after}
use Rattle.batch_framing.specs.Clean.{Clean}
use Rattle.batch_framing.proofs.Finds.{clean-none, found-fault}
use Rattle.batch_check.specs.Called.{Measured, Called}

-- refusal 11
pub called-fault : (s o : List ℕ) {r : Option ℕ} {at : ℕ} → r ≡ first_fault s → r ≡ Some at → Called s o (Err (record { number = 11; offset = at })) o
unfolding batch_answer output_after
called-fault s o e h = let q = found-fault s e h in record { answer = rw q; output = rw q }

-- the output: from the buffer that begins with it, or by a second pass
module _ {s : List ℕ} {k : List Answer} {e : List ℕ} {needed : ℕ} (v : Measured s k e needed) where
  pub output-copied : (o : List ℕ) {o' : List ℕ} → needed ≤ length e → o' ≡ patch o 0 (take (needed - 0) e) → o' ≡ starts_with (batch_output s) o
  output-copied o h p =
      let z : needed - 0 ≡ needed = omega arith in
      p ∙ ap (patch o 0) (rw z (v.early h)) ∙ sym (starts_with-patch (batch_output s) o)

module _ {s : List ℕ} {k : List Answer} {e : List ℕ} {needed : ℕ} (c : Clean s) (v : Measured s k e needed) where
  -- refusal 12
  pub called-short : (o : List ℕ) → length o < needed → Called s o (Err (record { number = 12; offset = needed })) o
  unfolding batch_answer output_after answer_with
  called-short o h =
      let l : length o < bytes_needed s = rw v.size at h in
      let t = lt-ltb (length o) (bytes_needed s) l in
      record { answer = rw (clean-none c, t, v.size); output = rw (clean-none c, t) }

  pub called-written : (o : List ℕ) {o' : List ℕ} → o' ≡ starts_with (batch_output s) o → needed ≤ length o → Called s o (Ok needed) o'
  unfolding batch_answer output_after answer_with
  called-written o e h =
      let l : bytes_needed s ≤ length o = rw v.size at h in
      let t = le-ltb (length o) (bytes_needed s) l in
      record { answer = rw (clean-none c, t, v.size); output = e ∙ rw (clean-none c, t) }

-- equal answers have equal numbers
pub called-numbers : {s o : List ℕ} {a : BatchAnswer} {o' : List ℕ} → Called s o a o' → batch_numbers a ≡ batch_numbers (batch_answer s (length o))
called-numbers v = ap batch_numbers v.answer
