-- What stands in an output that is printed image by image.
use Rattle.std.specs.Prelude.{ℕ, ◌+◌, ◌*◌, ◌<◌, ◌≤◌, ◌≡◌, List, ◌++◌, length, take, drop}
use Rattle.numbers.specs.Bytes.{word_range}
use Rattle.oce_model.specs.declared.Field.{Field}
use Rattle.oce_diag.specs.Encoding.{diagnostic_size}
use Rattle.outcome.specs.Answer.{Answer}
use Rattle.printed.specs.Pieces.{Row}
use Rattle.batch.specs.Fields.{most_images, image_in}
use Rattle.batch.specs.Output.{summary_size, count_of, size_of, summary_of, image_report, batch_output, bytes_needed}
use Rattle.batch_framing.specs.Clean.{Clean}

-- a call has written n bytes: the output of the batch s, and out begins with it
pub record Left (s out : List ℕ) (n : ℕ) : Type 0 where
  pub clean : Clean s
  pub long : n ≡ bytes_needed s
  pub behind : List ℕ
  pub bytes : out ≡ batch_output s ++ behind

-- the part of the image in the field f begins at o with the image's answer a, and behind that stands a row of the diagnostics that a counts
pub record Part (s : List ℕ) (f : Field) (out : List ℕ) (o : ℕ) (a : Answer) : Type 0 where
  pub within : f.at ≤ length s
  pub few : f.ord < most_images
  pub answer : a ≡ summary_of (image_in s f)
  pub room : o + size_of a < word_range
  pub report : take (diagnostic_size * count_of a) (drop (o + summary_size) out) ≡ image_report (image_in s f)
  pub row : Row (take (diagnostic_size * count_of a) (drop (o + summary_size) out)) (count_of a)
