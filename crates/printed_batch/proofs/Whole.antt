-- What is printed of an output, image by image, is the whole of `printed_batch`.
use Prim.Native.Nat.{ℕ, zero, suc, ◌+◌, ◌<◌}
use native.Mathlib.Omega.{arith}
use mathlib.Core.Path.{◌≡◌, refl, sym, ap, ◌∙◌}
use mathlib.Core.Bool.{Bool, true, false, cond}
use mathlib.Core.List.{List, [], ◌∷◌, ◌++◌, map, append_assoc, append-nil}
use Rattle.std.specs.Prelude.{Option, Some, None, Ok, Err}
use lib.Dec.{ltb}
use lib.ListN.{length, take, drop, length-append}
use lib.Seq.{get_or-drop, drop_at, drop-append_seam}
use Rattle.base.specs.Lists.{each}
use Rattle.base.specs.Buffers.{starts_with}
use Rattle.numbers.specs.Bytes.{byte_range, word_range, byte}
use Rattle.oce_model.specs.Format.{leading_bytes}
use Rattle.oce_model.specs.Image.{fields}
use Rattle.oce_model.specs.Texts.{text_of}
use Rattle.oce_model.specs.Refusals.{refusal}
use Rattle.oce_model.specs.declared.Refusal.{Refusal}
use Rattle.oce_model.specs.declared.Field.{Field}
use Rattle.oce_diag.specs.Encoding.{report_bytes}
use Rattle.oce_diag.specs.Putting.{total}
use Rattle.oce_diag.specs.Decoded.{AllFitting}
use Rattle.oce_diag.specs.declared.Diagnostic.{Diagnostic}
use Rattle.oce_diag.proofs.Diagnostics.{errors-warnings}
use Rattle.outcome.specs.Answer.{Answer, report_of}
use Rattle.printed.specs.Printed.{first_line, printed, lines, lines_from}
use Rattle.printed.proofs.Whole.{lines-whole}
use Rattle.printed.proofs.Rules.{report_of-fits}
use Rattle.batch.specs.Fields.{first_fault, image_in, images}
use Rattle.batch.specs.Output.{summary_size, count_of, size_of, summary_by, summary_of, summary_bytes, report_by, image_report, image_output, output_of, batch_output, bytes_needed}
use Rattle.batch.specs.Answer.{BatchAnswer, answer_with, batch_answer_for, batch_answer, output_after}
use Rattle.printed_batch.specs.PrintedBatch.{image_line, image_text, image_texts, printed_batch}
use Rattle.printed_batch.specs.ReadBack.{counted_in, answer_in, counted_of, image_pieces, pieces}
use Rattle.batch.proofs.Sizes.{summary_bytes-length, output-long}
use Rattle.printed_batch.proofs.ReadBack.{counted-back, answer-back, summary-fits, answer-single}

-- ---- one image's part of an output, and what stands behind it

total-counted : (a : Answer) → total (counted_of a) ≡ count_of a
total-counted (Err r) = refl
total-counted (Ok c) = refl

module _ (t b : List ℕ) where
  apart : image_output t ++ b ≡ summary_bytes (summary_of t) ++ (image_report t ++ b)
  unfolding image_output
  apart = append_assoc (summary_bytes (summary_of t)) (image_report t) b

  -- the answer that is read there is the image's
  pub answer-first : length (image_output t) < word_range → answer_in (image_output t ++ b) 0 ≡ summary_of t
  answer-first l = rw apart (answer-back (summary_of t) (image_report t ++ b) (summary-fits t l))

  -- and so many diagnostics are counted there
  pub count-first : length (image_output t) < word_range → total (counted_in (image_output t ++ b) 0) ≡ count_of (summary_of t)
  count-first l = rw (apart, counted-back (summary_of t) (image_report t ++ b) (summary-fits t l)) (total-counted (summary_of t))

  -- behind its field stands its report
  pub report-first : drop summary_size (image_output t ++ b) ≡ image_report t ++ b
  report-first = rw apart (drop_at (summary_bytes (summary_of t)) (image_report t ++ b) summary_size (summary_bytes-length (summary_of t)))

  -- behind that the parts of the images that follow
  pub next-first : drop (size_of (summary_of t)) (image_output t ++ b) ≡ b
  next-first = drop_at (image_output t) b (size_of (summary_of t)) (output-long t)

-- the lines of an accepted image's report, and of none
lines-there : (ds : List Diagnostic) (t b : List ℕ) → AllFitting ds → lines_from t (report_bytes ds ++ b) 0 (length ds) ≡ lines t ds
unfolding starts_with
lines-there ds t b f =
    ap (λ (l : List ℕ). lines_from t l 0 (length ds)) (ap (λ (l : List ℕ). report_bytes ds ++ l) (sym (drop-append_seam (report_bytes ds) b)))
    ∙ lines-whole t ds (report_bytes ds ++ b) f

no_lines : (t b : List ℕ) → lines_from t b 0 0 ≡ []
unfolding lines_from each
no_lines t b = refl

-- its first line, and the lines of as many diagnostics as were counted
pub printed-there : (t b : List ℕ) → ((i : ℕ) → byte t i < byte_range) → first_line (summary_of t) ++ lines_from t (image_report t ++ b) 0 (count_of (summary_of t)) ≡ printed t (summary_of t)
unfolding summary_of image_report printed
printed-there t b f = arm (refusal t) refl
  where
    arm : (o : Option Refusal) → refusal t ≡ o → first_line (summary_by t o) ++ lines_from t (report_by t o ++ b) 0 (count_of (summary_by t o)) ≡ printed t (summary_by t o)
    arm None e = rw (errors-warnings (report_of t), lines-there (report_of t) t b (report_of-fits t f e))
    arm (Some r) e = rw (no_lines t b) (append-nil (first_line (Err r)))

-- what is printed of its part is its text
pub image-whole : (i : ℕ) (t b : List ℕ) → ((k : ℕ) → byte t k < byte_range) → length (image_output t) < word_range → image_pieces i t (image_output t ++ b) ≡ image_text i t
unfolding image_pieces image_text
image-whole i t b f l =
    rw (answer-first t b l, count-first t b l, report-first t b)
    (append_assoc (image_line i) (first_line (summary_of t)) (lines_from t (image_report t ++ b) 0 (count_of (summary_of t)))
    ∙ ap (λ (l : List ℕ). image_line i ++ l) (printed-there t b f ∙ ap (printed t) (answer-single t)))

-- ---- a batch that isn't refused

module _ (s : List ℕ) (room n : ℕ) (h : batch_answer s room ≡ Ok n) where
  arm : (o : Option ℕ) → first_fault s ≡ o → batch_answer_for s room o ≡ Ok n → (first_fault s ≡ None) × (n ≡ bytes_needed s)
  unfolding answer_with
  arm None e h = (e, fits (ltb room (bytes_needed s)) h)
    where
      fits : (b : Bool) → cond {A = BatchAnswer} b (Err (record { number = 12; offset = bytes_needed s })) (Ok (bytes_needed s)) ≡ Ok n → n ≡ bytes_needed s
      fits true h = let z : ◌≡◌ {A = ℕ} 0 1 = cc in absurd (omega arith)
      fits false h = cc
  arm (Some at) e h = let z : ◌≡◌ {A = ℕ} 0 1 = cc in absurd (omega arith)

  parts : (first_fault s ≡ None) × (n ≡ bytes_needed s)
  unfolding batch_answer
  parts = arm (first_fault s) refl h

  -- none of its fields is at fault, and the bytes written are those needed
  pub written-faultless : first_fault s ≡ None
  written-faultless = parts.0

  pub written-needed : n ≡ bytes_needed s
  written-needed = parts.1

-- ---- all images of a batch

-- a part of a row of bytes is one
taken-bytes : (n : ℕ) (xs : List ℕ) → ((i : ℕ) → byte xs i < byte_range) → (i : ℕ) → byte (take n xs) i < byte_range
taken-bytes zero xs f i = omega arith
taken-bytes (suc n) [] f i = omega arith
taken-bytes (suc n) (x ∷ xs) f zero = f 0
taken-bytes (suc n) (x ∷ xs) f (suc i) = taken-bytes n xs (λ j. f (suc j)) i

module _ (s : List ℕ) (bytes : (i : ℕ) → byte s i < byte_range) where
  pub image-bytes : (f : Field) (i : ℕ) → byte (image_in s f) i < byte_range
  unfolding text_of
  image-bytes f i = taken-bytes f.len (drop (f.at + leading_bytes) s) (λ j. rw (get_or-drop (f.at + leading_bytes) s j 0) (bytes (f.at + leading_bytes + j))) i

  -- fields from number i on
  pub pieces_whole : (i : ℕ) (fs : List Field) (b : List ℕ) → length (output_of (map (image_in s) fs)) < word_range → pieces i (map (image_in s) fs) (output_of (map (image_in s) fs) ++ b) ≡ image_texts i (map (image_in s) fs)
  unfolding pieces image_texts output_of
  pieces_whole i [] b l = refl
  pieces_whole i (f ∷ fs) b l =
      let t = image_in s f in
      let later = output_of (map (image_in s) fs) in
      let n : length (image_output t ++ later) ≡ length (image_output t) + length later = length-append (image_output t) later in
      rw (append_assoc (image_output t) later b, count-first t (later ++ b) (omega arith), next-first t (later ++ b), image-whole i t (later ++ b) (image-bytes f) (omega arith), pieces_whole (i + 1) fs b (omega arith))

  -- all that is printed for a batch that isn't refused: what is printed of the output that the call leaves, image by image
  pub batch-whole : (o : List ℕ) (n : ℕ) → batch_answer s (length o) ≡ Ok n → n < word_range → printed_batch s (length o) ≡ pieces 0 (images s) (output_after s o)
  unfolding printed_batch output_after starts_with batch_output images
  batch-whole o n h l = let e : n ≡ bytes_needed s = written-needed s (length o) n h in rw h (sym (pieces_whole 0 (fields s) (drop (length (batch_output s)) o) (omega arith)))
