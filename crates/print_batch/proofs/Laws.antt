-- Laws of a pass over an output, image by image: the part of each begins where the one before ends.
use Prim.Native.Nat.{ℕ, ◌+◌, ◌*◌, ◌<◌, ◌≤◌}
use native.Mathlib.Omega.{arith}
use mathlib.Core.Path.{◌≡◌, refl, sym, ap, ◌∙◌, subst}
use mathlib.Core.List.{List, [], ◌∷◌, ◌++◌, map, append_assoc, append-nil}
use Rattle.std.specs.Prelude.{Option, Some, None, Ok, Err}
use lib.ListN.{length, take, drop, length-append, drop_of_length-le}
use lib.Seq.{take-append_seam, drop-drop}
use Rattle.std.specs.Prelude.{Option as Known}
use Rattle.std.specs.Io.KnownBytes.{Appends}
use Rattle.std.proofs.KnownBytes.{Appends-nil, Appends-trans}
use Rattle.base.specs.Buffers.{starts_with}
use Rattle.numbers.specs.Bytes.{byte, byte_range, word_range, long_range}
use Rattle.oce_model.specs.Image.{fields}
use Rattle.oce_model.specs.Refusals.{refusal}
use Rattle.oce_model.specs.declared.Refusal.{Refusal}
use Rattle.oce_model.specs.declared.Field.{Field}
use Rattle.oce_diag.specs.Encoding.{diagnostic_size, report_bytes}
use Rattle.oce_diag.proofs.Diagnostics.{errors-warnings}
use Rattle.outcome.specs.Answer.{Answer, report_of}
use Rattle.printed.specs.Pieces.{Row}
use Rattle.printed.proofs.Row.{row-report}
use Rattle.batch.specs.Fields.{image_in, images}
use Rattle.batch.specs.Output.{summary_size, count_of, size_of, summary_by, summary_of, report_by, image_report, image_output, output_of, batch_output}
use Rattle.batch.specs.Answer.{BatchAnswer, batch_answer, output_after}
use Rattle.batch.specs.declared.BatchRefusal.{BatchRefusal}
use Rattle.batch_framing.specs.Clean.{Ahead}
use Rattle.batch_framing.proofs.Finds.{found-clean}
use Rattle.batch_framing.proofs.Passes.{ahead-start, ahead-next, ahead-at, ahead-few, ahead-ord}
use Rattle.printed.specs.Printed.{first_line, printed, lines_from}
use Rattle.printed_batch.specs.PrintedBatch.{image_line, refusal_line, image_text, image_texts, printed_batch}
use Rattle.printed_batch.specs.ReadBack.{answer_in}
use Rattle.batch.proofs.Sizes.{report-long, output-long}
use Rattle.printed_batch.proofs.ReadBack.{answer-there, answer-single}
use Rattle.printed_batch.proofs.Whole.{answer-first, report-first, next-first, printed-there, image-bytes, written-faultless, written-needed}
use Rattle.print_check.proofs.Laws.{none_row, no_lines}
use Rattle.print_batch.specs.Printing.{Left, Part}

-- ---- what a call leaves

pub left : (s o : List ℕ) {a : BatchAnswer} {o' : List ℕ} {n : ℕ} → a ≡ batch_answer s (length o) → o' ≡ output_after s o → a ≡ Ok n → Left s o' n
unfolding output_after starts_with
left s o {n = n} e q w =
    let h : batch_answer s (length o) ≡ Ok n = sym e ∙ w in
    record {
      clean = found-clean s (sym (written-faultless s (length o) n h)) refl;
      long = written-needed s (length o) n h;
      behind = drop (length (batch_output s)) o;
      bytes = q ∙ rw h;
    }

-- ---- the report of an image is a row of its diagnostics

row-there : (t : List ℕ) → Row (image_report t) (count_of (summary_of t))
unfolding image_report summary_of starts_with
row-there t = arm (refusal t)
  where
    bare : (n : ℕ) (xs : List ℕ) → xs ++ drop n [] ≡ xs
    bare n xs = let l : length {A = ℕ} [] ≤ n = omega arith in ap (λ (l : List ℕ). xs ++ l) (drop_of_length-le [] l) ∙ append-nil xs

    arm : (o : Option Refusal) → Row (report_by t o) (count_of (summary_by t o))
    arm None = rw (errors-warnings (report_of t)) (rw (bare (length (report_bytes (report_of t))) (report_bytes (report_of t))) at (row-report (report_of t) []))
    arm (Some r) = none_row []

-- ---- the pass

-- Of the images left the parts begin at o. What a writer holds has grown by what is printed of the images before them.
pub record Printing (s out : List ℕ) (rest : List Field) (o : ℕ) (old new : Known (List ℕ)) : Type 0 where
  pub i : ℕ
  pub ahead : Ahead s i rest
  pub behind : List ℕ
  pub bytes : drop o out ≡ output_of (map (image_in s) rest) ++ behind
  pub low : o + length (output_of (map (image_in s) rest)) < word_range
  pub done : List ℕ
  pub written : Appends old new done
  pub all : image_texts 0 (images s) ≡ done ++ image_texts i (map (image_in s) rest)

pub printing-start : {s out : List ℕ} {n : ℕ} {rest : List Field} (old : Known (List ℕ)) → Left s out n → rest ≡ fields s → n < word_range → Printing s out rest 0 old old
unfolding batch_output images
printing-start {s} old v e l = let n = v.long in rw e record { i = 0; ahead = ahead-start v.clean refl; behind = v.behind; bytes = v.bytes; low = omega arith; done = []; written = Appends-nil old; all = refl }

module _ {s out : List ℕ} {rest : List Field} {o : ℕ} {old new : Known (List ℕ)} (v : Printing s out rest o old new) where
  -- all of them
  pub printing-done : rest ≡ [] → Appends old new (image_texts 0 (images s))
  unfolding image_texts
  printing-done h = subst (Appends old new) (sym (v.all ∙ ap (λ (l : List Field). v.done ++ image_texts v.i (map (image_in s) l)) h ∙ append-nil v.done)) v.written

  module _ {f : Field} {later : List Field} (q : rest ≡ f ∷ later) where
    t : List ℕ
    t = image_in s f

    more : List ℕ
    more = output_of (map (image_in s) later) ++ v.behind

    here : drop o out ≡ image_output t ++ more
    unfolding output_of t more
    here = v.bytes ∙ ap (λ (l : List Field). output_of (map (image_in s) l) ++ v.behind) q ∙ append_assoc (image_output (image_in s f)) (output_of (map (image_in s) later)) v.behind

    low : o + length (image_output t) + length (output_of (map (image_in s) later)) < word_range
    unfolding output_of t
    low =
        let e = ap (λ (l : List Field). length (output_of (map (image_in s) l))) q in
        let n = length-append (image_output (image_in s f)) (output_of (map (image_in s) later)) in
        let l = v.low in
        omega arith

    size : length (image_output t) ≡ size_of (summary_of t)
    size = output-long t

    pub printing-room : o + summary_size < long_range
    printing-room = let l = low in let e = size in omega arith

    module _ {a : Answer} (e : a ≡ answer_in out o) where
      is : a ≡ summary_of t
      is = let l = low in e ∙ answer-there out o ∙ ap (λ (b : List ℕ). answer_in b 0) here ∙ answer-first t more (omega arith)

      pub printing-end : {n : ℕ} → n ≡ size_of a → o + n < word_range
      printing-end m = let l = low in let n = size in rw (m, is) (omega arith)

      pub printing-part : Part s f out o a
      unfolding t
      printing-part =
          let there : drop (o + summary_size) out ≡ image_report t ++ more = sym (drop-drop summary_size o out) ∙ ap (drop summary_size) here ∙ report-first t more in
          let taken : take (diagnostic_size * count_of (summary_of t)) (drop (o + summary_size) out) ≡ image_report t = rw (there, ← report-long t) (take-append_seam (image_report t) more) in
          record {
            within = ahead-at v.ahead q;
            few = ahead-few v.ahead q;
            answer = is;
            room = printing-end refl;
            report = rw is taken;
            row = rw (is, taken) (row-there t);
          }

      pub printing-turn : {n : ℕ} {next : Known (List ℕ)} → Appends new next (image_text f.ord (image_in s f)) → n ≡ size_of a → Printing s out later (o + n) old next
      unfolding more image_texts
      printing-turn {n} {next = next} w z =
          let m : n ≡ size_of (summary_of t) = z ∙ ap size_of is in
          let l = low in
          let k = size in
          record {
            i = v.i + 1;
            ahead = ahead-next v.ahead q;
            behind = v.behind;
            bytes = ap (λ x. drop (o + x) out) m ∙ sym (drop-drop (size_of (summary_of t)) o out) ∙ ap (drop (size_of (summary_of t))) here ∙ next-first t more;
            low = omega arith;
            done = v.done ++ image_text f.ord (image_in s f);
            written = Appends-trans old new next _ _ v.written w;
            all = v.all ∙ ap (λ (l : List Field). v.done ++ image_texts v.i (map (image_in s) l)) q
                ∙ ap (λ (j : ℕ). v.done ++ (image_text j (image_in s f) ++ image_texts (v.i + 1) (map (image_in s) later))) (sym (ahead-ord v.ahead q))
                ∙ sym (append_assoc v.done (image_text f.ord (image_in s f)) (image_texts (v.i + 1) (map (image_in s) later)));
          }

-- ---- one image

-- an image with diagnostics is accepted
pub counted-accepted : (t : List ℕ) → 0 < count_of (summary_of t) → refusal t ≡ None
unfolding summary_of
counted-accepted t h = arm (refusal t) refl h
  where
    arm : (o : Option Refusal) → refusal t ≡ o → 0 < count_of (summary_by t o) → refusal t ≡ None
    arm None e h = e
    arm (Some r) e h = absurd (omega arith)

-- what is printed of it: its lines, and those of its report
pub part-text : {s : List ℕ} {f : Field} {out : List ℕ} {o : ℕ} {a : Answer} → ((i : ℕ) → byte s i < byte_range) → Part s f out o a
    → image_text f.ord (image_in s f) ≡ (image_line f.ord ++ first_line a) ++ lines_from (image_in s f) (take (diagnostic_size * count_of a) (drop (o + summary_size) out)) 0 (count_of a)
unfolding image_text
part-text {s} {f} bytes v =
    let t = image_in s f in
    let whole : first_line (summary_of t) ++ lines_from t (image_report t) 0 (count_of (summary_of t)) ≡ printed t (summary_of t) =
    rw (append-nil (image_report t)) at (printed-there t [] (image-bytes s bytes f)) in
    rw (v.report, v.answer)
    (sym (append_assoc (image_line f.ord) (first_line (summary_of t)) (lines_from t (image_report t) 0 (count_of (summary_of t)))
    ∙ ap (λ (l : List ℕ). image_line f.ord ++ l) (whole ∙ ap (printed t) (answer-single t))))

-- without diagnostics it is its lines alone
pub part-first : {s : List ℕ} {f : Field} {out : List ℕ} {o : ℕ} {a : Answer} → ((i : ℕ) → byte s i < byte_range) → Part s f out o a → count_of a ≡ 0 → image_text f.ord (image_in s f) ≡ image_line f.ord ++ first_line a
part-first {f = f} {a = a} bytes v e = rw (e, no_lines) at (part-text bytes v) ∙ append-nil (image_line f.ord ++ first_line a)

-- its report, as a part of the output
pub part-row : {s : List ℕ} {f : Field} {out : List ℕ} {o : ℕ} {a : Answer} → Part s f out o a → {n : ℕ} {xs : List ℕ} → n ≡ count_of a → xs ≡ take (diagnostic_size * n) (drop (o + summary_size) out) → Row xs n
part-row v e q = rw (q, e) v.row

-- ---- what is printed for a batch

pub printed-refused : (s : List ℕ) (room : ℕ) {a : BatchAnswer} {r : BatchRefusal} → a ≡ batch_answer s room → a ≡ Err r → printed_batch s room ≡ refusal_line r
unfolding printed_batch
printed-refused s room e h = rw (← e, h)

pub printed-written : (s : List ℕ) (room : ℕ) {a : BatchAnswer} {n : ℕ} → a ≡ batch_answer s room → a ≡ Ok n → printed_batch s room ≡ image_texts 0 (images s)
unfolding printed_batch
printed-written s room e h = rw (← e, h)
