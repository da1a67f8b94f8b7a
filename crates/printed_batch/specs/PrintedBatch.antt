-- What is printed for a batch of images. FORMAT 23.
use Rattle.std.specs.Prelude.{ℕ, ◌+◌, List, [], ◌∷◌, ◌++◌, length, Ok, Err}
use Rattle.decimal.specs.Decimal.{decimal, wide_decimal}
use Rattle.outcome.specs.Answer.{Answer, report_of, report_size, answer}
use Rattle.printed.specs.Printed.{newline, refused_line, printed}
use Rattle.batch.specs.Fields.{images}
use Rattle.batch.specs.Answer.{BatchAnswer, batch_answer}
use Rattle.batch.specs.declared.BatchRefusal.{BatchRefusal}

-- ---- lines

-- `image `
abbrev pub image_label : List ℕ
image_label = 0x69 ∷ 0x6D ∷ 0x61 ∷ 0x67 ∷ 0x65 ∷ 0x20 ∷ []

-- the line in front of an image's own: its number, from 0
unfoldable pub image_line : ℕ → List ℕ
image_line i = (image_label ++ decimal i) ++ newline

-- the line of a refused batch: number and offset, or the bytes needed, which may be more than four bytes hold
unfoldable pub refusal_line : BatchRefusal → List ℕ
refusal_line r = refused_line r.number (wide_decimal r.offset)

-- ---- texts

-- the answer of the single call for an image, with the room that it needs
abbrev pub answer_alone : List ℕ → Answer
answer_alone t = answer t (length t) (report_size (report_of t))

-- image i of a batch: its line, then what the single call prints
unfoldable pub image_text : ℕ → List ℕ → List ℕ
image_text i t = image_line i ++ printed t (answer_alone t)

-- images from number i on
unfoldable pub image_texts : ℕ → List (List ℕ) → List ℕ
image_texts i [] = []
image_texts i (t ∷ ts) = image_text i t ++ image_texts (i + 1) ts

-- the refusal's line alone, or the text of each image
abbrev pub printed_for : List ℕ → BatchAnswer → List ℕ
printed_for s (Err r) = refusal_line r
printed_for s (Ok n) = image_texts 0 (images s)

-- all that is printed for a batch; the number is the length of the output buffer
unfoldable pub printed_batch : List ℕ → ℕ → List ℕ
printed_batch s room = printed_for s (batch_answer s room)
