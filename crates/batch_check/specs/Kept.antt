-- The answers for a batch's images, kept in a column.
use Rattle.std.specs.Prelude.{ℕ, ◌+◌, ◌<◌, ◌≤◌, ◌≡◌, List, [], length, get_or, Ok}
use Rattle.base.specs.Buffers.{patch}
use Rattle.outcome.specs.Answer.{Answer}
use Rattle.batch.specs.Fields.{most_images, images}
use Rattle.batch.specs.Output.{none_counted, summary_of, image_output}
use Rattle.batch_image.specs.Summarized.{most_bytes}

-- the answer kept for image i
abbrev pub answer_of : List Answer → ℕ → Answer
answer_of k i = get_or k i (Ok none_counted)

-- an image with the bytes t needs n bytes; a buffer e has become e': its part of the output stands there from index o on, if it fits
pub record Measures (t : List ℕ) (o : ℕ) (e e' : List ℕ) (n : ℕ) : Type 0 where
  pub size : n ≡ length (image_output t)
  pub low : n ≤ most_bytes
  pub bytes : o + length (image_output t) ≤ length e → e' ≡ patch e o (image_output t)

-- the answers for the first n images are kept
pub record KeptTo (s : List ℕ) (n : ℕ) (k : List Answer) : Type 0 where
  pub long : length k ≡ most_images
  pub entries : (j : ℕ) → j < n → answer_of k j ≡ summary_of (get_or (images s) j [])

-- those for all images are
abbrev pub Kept : List ℕ → List Answer → Type 0
Kept s k = KeptTo s (length (images s)) k
