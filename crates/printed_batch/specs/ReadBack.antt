-- Counts and answers read back from the output of a batch, and what is printed of them.
use Rattle.std.specs.Prelude.{ℕ, ◌+◌, ◌*◌, ◌<◌, ◌≢◌, cond, List, [], ◌∷◌, ◌++◌, eqb, drop, Ok, Err}
use Rattle.numbers.specs.Bytes.{byte_range, word_range, byte, le32}
use Rattle.oce_model.specs.declared.Refusal.{Refusal}
use Rattle.oce_diag.specs.Encoding.{diagnostic_size}
use Rattle.oce_diag.specs.Putting.{total}
use Rattle.oce_diag.specs.declared.Counted.{Counted}
use Rattle.outcome.specs.Answer.{Answer}
use Rattle.batch.specs.Output.{summary_size, none_counted, refusal_place, offset_place, errors_place, warnings_place}
use Rattle.printed.specs.Printed.{first_line, lines_from}
use Rattle.printed_batch.specs.PrintedBatch.{image_line}

-- ---- one answer

-- the counts in the field that begins at an offset of an output, whatever its refusal is
unfoldable pub counted_in : List ℕ → ℕ → Counted
counted_in b o = record { errors = le32 b (o + errors_place); warnings = le32 b (o + warnings_place) }

-- the answer that such a field stands for: number 0 is no refusal
unfoldable pub answer_in : List ℕ → ℕ → Answer
answer_in b o =
    cond (eqb (byte b (o + refusal_place)) 0)
    (Ok (counted_in b o))
    (Err (record { number = byte b (o + refusal_place); offset = le32 b (o + offset_place) }))

-- a refusal has a number, and its numbers have room in its field
pub record SmallRefusal (r : Refusal) : Type 0 where
  pub positive : r.number ≢ 0
  pub few : r.number < byte_range
  pub near : r.offset < word_range

-- an answer that its field tells from all others: that of a small refusal, and counts that have room there
abbrev pub Fitting : Answer → Type 0
Fitting (Err r) = SmallRefusal r
Fitting (Ok c) = (c.errors < word_range) × (c.warnings < word_range)

-- the counts that an answer's field has: none beside a refusal
abbrev pub counted_of : Answer → Counted
counted_of (Err r) = none_counted
counted_of (Ok c) = c

-- ---- images in turn

-- what is printed of image i, whose part of an output is followed by the rest b of it: the image's line and the first one, then the lines of its diagnostics
unfoldable pub image_pieces : ℕ → List ℕ → List ℕ → List ℕ
image_pieces i t b = (image_line i ++ first_line (answer_in b 0)) ++ lines_from t (drop summary_size b) 0 (total (counted_in b 0))

-- what is printed of images from number i on, whose parts b begins with
unfoldable pub pieces : ℕ → List (List ℕ) → List ℕ → List ℕ
pieces i [] b = []
pieces i (t ∷ ts) b = image_pieces i t b ++ pieces (i + 1) ts (drop (summary_size + diagnostic_size * total (counted_in b 0)) b)
