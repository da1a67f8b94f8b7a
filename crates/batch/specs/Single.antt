-- 'It equals what the single call gives image by image': what a batch's output holds of an image, beside one checking call for that image. FORMAT 22.
-- What such a call answers and leaves is what `check` promises: `answer` and `report_after` of FORMAT 1.
use Rattle.std.specs.Prelude.{ℕ, ◌*◌, ◌≤◌, ◌≡◌, List, [], ◌∷◌, ◌++◌, length, take, replicate}
use Rattle.base.specs.Buffers.{starts_with}
use Rattle.oce_diag.specs.Encoding.{diagnostic_size}
use Rattle.outcome.specs.Answer.{report_of, report_size, answer, report_after}
use Rattle.batch.specs.Output.{summary_of, summary_bytes, count_of, image_report}

-- a filled buffer f and a report buffer r that have room for what a call gives for the image s
pub record Roomy (s f r : List ℕ) : Type 0 where
  pub filled : length s ≤ length f
  pub report : report_size (report_of s) ≤ length r

-- the bytes that a call leaves in the report buffer: as many diagnostics as its answer counts
unfoldable pub left_of : List ℕ → List ℕ → List ℕ → List ℕ
left_of s f r = take (diagnostic_size * count_of (answer s (length f) (length r))) (report_after s f r)

-- what sums up an image is what the call answers, its report the bytes that the call leaves
pub record AsSingle (s f r : List ℕ) : Type 0 where
  pub answer : summary_of s ≡ answer s (length f) (length r)
  pub bytes : image_report s ≡ left_of s f r
  pub after : report_after s f r ≡ starts_with (image_report s) r

-- the buffers lent for an image
pub record Lent : Type 0 where
  pub filled : List ℕ
  pub report : List ℕ

-- just the room that an image needs
unfoldable pub just_room : List ℕ → Lent
just_room s = record { filled = s; report = replicate (report_size (report_of s)) 0 }

-- single calls for images, one after the other, each with buffers lent for it: what it answers, in a field, and the bytes that it leaves
unfoldable pub singly : (List ℕ → Lent) → List (List ℕ) → List ℕ
singly b [] = []
singly b (s ∷ ss) =
    let f = (b s).filled in let r = (b s).report in
    (summary_bytes (answer s (length f) (length r)) ++ left_of s f r) ++ singly b ss
