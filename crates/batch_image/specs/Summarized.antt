-- What is summed up for one image, and the bytes of its part of the output.
use Rattle.std.specs.Prelude.{ℕ, ◌+◌, ◌*◌, ◌≤◌, ◌≡◌, List, length}
use Rattle.base.specs.Buffers.{patch, starts_with}
use Rattle.oce_diag.specs.Encoding.{diagnostic_size}
use Rattle.outcome.specs.Answer.{Answer}
use Rattle.rules.specs.Ran.{most_diagnostics}
use Rattle.batch.specs.Output.{summary_size, size_of, summary_of, image_report, image_output}

-- no image needs more
abbrev pub most_bytes : ℕ
most_bytes = summary_size + diagnostic_size * most_diagnostics

-- the answer that sums up an image
pub record Summarized (s : List ℕ) (a : Answer) : Type 0 where
  pub is : a ≡ summary_of s
  pub few : size_of a ≤ most_bytes

-- the same, with a report b that has become b': the image's, if that fits
pub record Summed (s b b' : List ℕ) (a : Answer) : Type 0 where
  pub summarized : Summarized s a
  pub bytes : length (image_report s) ≤ length b → b' ≡ starts_with (image_report s) b

-- the same, with a buffer e that has become e': the image's part of the output stands there from index o on, if it fits
pub record Placed (s : List ℕ) (o : ℕ) (e e' : List ℕ) (a : Answer) : Type 0 where
  pub summarized : Summarized s a
  pub bytes : o + length (image_output s) ≤ length e → e' ≡ patch e o (image_output s)
