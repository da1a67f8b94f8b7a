-- What one call for a batch gives.
use Rattle.std.specs.Prelude.{ℕ, ◌*◌, ◌≤◌, ◌≡◌, List, length, take}
use Rattle.batch.specs.Fields.{most_images}
use Rattle.batch.specs.Output.{batch_output, bytes_needed}
use Rattle.outcome.specs.Answer.{Answer}
use Rattle.batch.specs.Answer.{BatchAnswer, batch_answer, output_after}
use Rattle.batch_image.specs.Summarized.{most_bytes}
use Rattle.batch_check.specs.Kept.{Kept}

-- no batch needs more
abbrev pub most_needed : ℕ
most_needed = most_bytes * most_images

-- all images are kept, and need so many bytes, which the buffer e begins with, if they fit
pub record Measured (s : List ℕ) (k : List Answer) (e : List ℕ) (needed : ℕ) : Type 0 where
  pub kept : Kept s k
  pub size : needed ≡ bytes_needed s
  pub low : needed ≤ most_needed
  pub early : needed ≤ length e → take needed e ≡ batch_output s

-- the answer, and the output buffer: o at entry, o' at exit
pub record Called (s o : List ℕ) (a : BatchAnswer) (o' : List ℕ) : Type 0 where
  pub answer : a ≡ batch_answer s (length o)
  pub output : o' ≡ output_after s o
