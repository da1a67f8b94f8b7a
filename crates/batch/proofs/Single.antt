-- A batch's output is what single calls give, image by image.
use Prim.Native.Nat.{ℕ, ◌+◌, ◌*◌}
use native.Mathlib.Omega.{arith}
use mathlib.Core.Path.{◌≡◌, refl, sym, ap, ◌∙◌}
use mathlib.Core.List.{List, [], ◌∷◌}
use Rattle.std.specs.Prelude.{Option, Some, None, Ok}
use lib.ListN.{length, length-replicate}
use lib.Seq.{take-append_seam}
use borrow.Author.Tests.{le-ltb}
use Rattle.base.specs.Buffers.{starts_with}
use Rattle.oce_model.specs.Refusals.{refusal}
use Rattle.oce_model.specs.declared.Refusal.{Refusal}
use Rattle.oce_diag.specs.Diagnostics.{errors, warnings}
use Rattle.oce_diag.specs.Encoding.{diagnostic_size, report_bytes}
use Rattle.oce_diag.proofs.Diagnostics.{errors-warnings}
use Rattle.oce_diag.proofs.Encoding.{report_bytes-length}
use Rattle.outcome.specs.Answer.{report_of, report_size, answer, report_after}
use Rattle.batch.specs.Fields.{images}
use Rattle.batch.specs.Output.{summary_of, image_report, image_output, output_of, batch_output}
use Rattle.batch.specs.Answer.{batch_answer, output_after}
use Rattle.batch.specs.Single.{Roomy, left_of, AsSingle, Lent, just_room, singly}

-- of one image, in all buffers that have room: where it is turned away they need none
pub as-single : (s f r : List ℕ) → Roomy s f r → AsSingle s f r
unfolding summary_of image_report answer report_after starts_with left_of
as-single s f r room = arm (refusal s) refl
  where
    arm : (o : Option Refusal) → refusal s ≡ o → AsSingle s f r
    arm (Some x) e = record { answer = rw e; bytes = rw e; after = rw e }
    arm None e =
        let h : answer s (length f) (length r) ≡ Ok (record { errors = errors (report_of s); warnings = warnings (report_of s) }) =
        rw (e, le-ltb (length f) (length s) room.filled, le-ltb (length r) (report_size (report_of s)) room.report) in
        let n : diagnostic_size * (errors (report_of s) + warnings (report_of s)) ≡ length (report_bytes (report_of s)) =
        ap (λ k. diagnostic_size * k) (errors-warnings (report_of s)) ∙ sym (report_bytes-length (report_of s)) in
        record {
          answer = rw (h, e);
          bytes = rw (h, e, n) (sym (take-append_seam (report_bytes (report_of s)) _));
          after = rw (h, e);
        }

-- such buffers can be lent for every image
pub room-there : (s : List ℕ) → Roomy s (just_room s).filled (just_room s).report
unfolding just_room
room-there s = record { filled = omega arith; report = rw (length-replicate {A = ℕ} (report_size (report_of s)) 0) (omega arith) }

module _ (b : List ℕ → Lent) (room : (s : List ℕ) → Roomy s (b s).filled (b s).report) where
  -- of any images
  pub images-singly : (ss : List (List ℕ)) → output_of ss ≡ singly b ss
  unfolding output_of singly image_output
  images-singly [] = refl
  images-singly (s ∷ ss) =
      let one = as-single s (b s).filled (b s).report (room s) in
      rw (one.answer, one.bytes, images-singly ss)

  -- of a batch that isn't refused: its output buffer starts with what single calls give for its images, in their order
  pub batch-singly : (s o : List ℕ) (n : ℕ) → batch_answer s (length o) ≡ Ok n → output_after s o ≡ starts_with (singly b (images s)) o
  unfolding output_after batch_output
  batch-singly s o n e = rw (e, images-singly (images s))
