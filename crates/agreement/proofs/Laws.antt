-- Laws of the whole comparison.
use Prim.Native.Nat.{ℕ, suc, ◌+◌, ◌<◌, ◌≤◌}
use native.Mathlib.Decide.{dec_lt}
use native.Mathlib.Omega.{arith}
use mathlib.Core.Path.{◌≡◌, refl, sym, ap, ◌∙◌}
use mathlib.Core.Bool.{Bool, true, false, not, ◌&&◌}
use mathlib.Core.List.{List, ◌∷◌, ◌++◌}
use Rattle.std.specs.Prelude.{Some, None, Result, Ok, Err, MatchResult}
use lib.Dec.{eqb}
use lib.ListN.{length, take, drop, take-append-drop, length-take, get_or-eq_default}
use lib.Seq.{drop-cons, get_or-take, get_or-drop}
use Rattle.numbers.specs.Bytes.{word_range, byte, byte_range}
use Rattle.oce_model.specs.Format.{longest_image}
use Rattle.oce_model.proofs.Accepted.{accepted}
use Rattle.oce_diag.specs.Encoding.{report_bytes}
use Rattle.oce_diag.specs.Decoded.{diagnostic_at, AllFitting}
use Rattle.oce_diag.specs.declared.Diagnostic.{Diagnostic as OfReport}
use Rattle.oce_diag.proofs.Diagnostics.{errors-warnings}
use Rattle.oce_diag.proofs.Encoding.{report_bytes-length}
use Rattle.oce_diag.proofs.Decoded.{report-back}
use Rattle.oce_model.specs.declared.Refusal.{Refusal}
use Rattle.oce_diag.specs.declared.Counted.{Counted}
use Rattle.outcome.specs.Answer.{Answer, report_of, answer}
use Rattle.moved.specs.Moved.{Moved}
use Rattle.moved.proofs.Bytes.{Bytes}
use Rattle.moved.proofs.Moved.{checks}
use Rattle.printed.proofs.Rules.{report_of-fits}
use Rattle.stored.specs.Files.{said}
use Rattle.stored.specs.declared.Results.{Results}
use Rattle.stored.specs.declared.Record.{Record}
use Rattle.agreement_diagnostics.specs.Diagnostics.{compared, Reported}
use Rattle.agreement_filled.specs.Filled.{filled_agrees}
use Rattle.agreement.specs.Agreement.{Agreement, longest_report, filled_agreement, accepted_agreement, results_agreement, image_of, agreement, agreement_with, Leaves}
use Rattle.agreement.specs.declared.Difference.{Difference}
use Rattle.agreement.specs.declared.Difference.TheVariants.{Refusal as Refusals, Counts, Diagnostic, Filled}

-- ---- counts, diagnostics, then the filled image

not_held : (b : Bool) → not b ≡ true → b ≡ false
not_held false e = refl
not_held true e = sym e

held : (b : Bool) → not b ≡ false → b ≡ true
held true e = refl
held false e = sym e

pub leaves-count : {s : List ℕ} {c : Counted} {filled report : List ℕ} → Leaves s c filled report → c.errors + c.warnings ≡ length (report_of s)
leaves-count {s} v = let p = v.counts.0 in let q = v.counts.1 in omega (arith, errors-warnings (report_of s))

module _ (f : List ℕ) (end : ℕ) (t : Results) {s : List ℕ} {c : Counted} {filled report : List ℕ} (v : Leaves s c filled report) where
  abbrev pub same : Bool
  same = eqb t.counted.errors c.errors && eqb t.counted.warnings c.warnings

  pub results-counts : {x : Bool} → x ≡ not same → x ≡ true → Err Counts ≡ results_agreement f end t s
  unfolding results_agreement
  results-counts g k = let h = not_held same (sym g ∙ k) in sym (rw (← v.counts.0, ← v.counts.1, h))

  module _ {x : Bool} (g : x ≡ not same) (k : x ≡ false) where
    results-then : {a : Result ℕ ℕ} → a ≡ compared f t.diagnostics s (report_of s) → filled_agreement f end t s a ≡ results_agreement f end t s
    unfolding results_agreement
    results-then e = let h = held same (sym g ∙ k) in sym (rw (← v.counts.0, ← v.counts.1, h, ← e))

    module _ {a : Result ℕ ℕ} (e : a ≡ compared f t.diagnostics s (report_of s)) where
      pub results-differ : {d : Difference} → MatchResult a (λ x. ◌≡◌ {A = Result ℕ Difference} (Err d) (Ok x)) (λ n. d ≡ Diagnostic n) → Err d ≡ results_agreement f end t s
      results-differ {d} m = first a m ∙ results-then e
        where
          first : (r : Result ℕ ℕ) → MatchResult r (λ x. ◌≡◌ {A = Result ℕ Difference} (Err d) (Ok x)) (λ n. d ≡ Diagnostic n) → Err d ≡ filled_agreement f end t s r
          first (Ok x) m = cc
          first (Err n) m = ap Err m

      module _ (at : ℕ) (m : MatchResult a (λ x. ◌≡◌ {A = Result ℕ Difference} (Ok at) (Ok x)) (λ w. ⊥)) {y : Bool} (d : y ≡ filled_agrees f at t.filled end s) where
        agreed : filled_agreement f end t s (Ok at) ≡ results_agreement f end t s
        agreed = ap (filled_agreement f end t s) (sym (ok a m)) ∙ results-then e
          where
            ok : (r : Result ℕ ℕ) → MatchResult r (λ x. ◌≡◌ {A = Result ℕ Difference} (Ok at) (Ok x)) (λ w. ⊥) → r ≡ Ok at
            ok (Ok x) m = cc
            ok (Err w) m = absurd m

        pub results_same : y ≡ true → Ok tt ≡ results_agreement f end t s
        results_same l = rw (sym d ∙ l) at agreed

        pub results-filled : y ≡ false → Err Filled ≡ results_agreement f end t s
        results-filled l = rw (sym d ∙ l) at agreed

-- ---- what a check leaves

-- a report's bytes, read one diagnostic after the other
reported : (ds : List OfReport) (r : List ℕ) → AllFitting ds → take (length (report_bytes ds)) r ≡ report_bytes ds → length r < word_range → Reported ds r
reported ds r a e l =
    let n : length (report_bytes ds) ≤ length r = omega (arith, length-take (length (report_bytes ds)) r, ap length e) in
    let whole : report_bytes ds ++ drop (length (report_bytes ds)) r ≡ r = ap (λ x. x ++ drop (length (report_bytes ds)) r) (sym e) ∙ take-append-drop (length (report_bytes ds)) r in
    record {
      few = omega (arith, report_bytes-length ds);
      next = λ n h. drop-cons ds n (diagnostic_at r n) h ∙ ap (λ d. d ∷ drop (suc n) ds) (sym (ap (λ b. diagnostic_at b n) (sym whole) ∙ report-back ds (drop (length (report_bytes ds)) r) n (diagnostic_at r n) a h));
    }

module _ (f : List ℕ) (stored : Record) (bytes : Bytes f) {s : List ℕ} (es : s ≡ image_of f stored) where
  image-bytes : Bytes s
  image-bytes i = rw es (arm (dec_lt i stored.len))
    where
      arm : Dec (i < stored.len) → byte (image_of f stored) i < byte_range
      arm (yes k) = rw (get_or-take stored.len (drop stored.image f) i 0 k, get_or-drop stored.image f i 0) (bytes (stored.image + i))
      arm (no k) =
          let n : length (image_of f stored) ≤ i = rw length-take (omega arith) in
          rw (get_or-eq_default (image_of f stored) 0 n) (omega arith)

  pub check-leaves : (room many : ℕ) {a : Answer} {c : Counted} {filled report : List ℕ} → a ≡ answer s room many → Moved s a filled report → a ≡ Ok c → length report ≡ longest_report → Leaves s c filled report
  check-leaves room many {a} {c} {filled} {report} an m h l =
      let k = checks s room many c (sym an ∙ h) in
      let v = m.left c h in
      record {
        accepted = k.accepted;
        short = (accepted s k.accepted).short;
        counts = k.counts;
        reported = reported (report_of s) report (report_of-fits s image-bytes k.accepted) v.report (omega arith);
        front = v.filled;
      }

-- ---- the whole

pub whole : (f : List ℕ) (r : Record) {s : List ℕ} {a b : Answer} (room many : ℕ) → s ≡ image_of f r → a ≡ answer s room many → room ≡ longest_image → many ≡ longest_report → a ≡ b → agreement_with f r s b ≡ agreement f r
unfolding agreement
whole f r room many es ea er em e = rw (← e, ea, er, em, es)

-- an image that is accepted here
module _ (f : List ℕ) (r : Record) (s : List ℕ) (c : Counted) (w : agreement_with f r s (Ok c) ≡ agreement f r) where
  pub accepted-refused : {x : Refusal} → said r.answer ≡ Err x → Err (Refusals None) ≡ agreement f r
  accepted-refused e = sym (ap (accepted_agreement f r.end s) e) ∙ w

  pub accepted-untold : said r.answer ≡ Ok None → Ok tt ≡ agreement f r
  accepted-untold e = sym (ap (accepted_agreement f r.end s) e) ∙ w

  pub accepted-told : {t : Results} {x : Agreement} → said r.answer ≡ Ok (Some t) → x ≡ results_agreement f r.end t s → x ≡ agreement f r
  accepted-told e g = g ∙ sym (ap (accepted_agreement f r.end s) e) ∙ w
