-- Demand 3, FORMAT 18, of what a checking call leaves in its two buffers: by the equations that such a call promises of its answer and its buffers, all of Moved holds.
use Prim.Native.Nat.{ℕ}
use native.Mathlib.Omega.{arith}
use mathlib.Core.Path.{◌≡◌, refl, sym, ap, ◌∙◌}
use mathlib.Core.Bool.{Bool, true, false, cond}
use mathlib.Core.List.{List, ◌++◌}
use Rattle.std.specs.Prelude.{Option, Some, None, Ok, Err}
use lib.ListN.{length, take, drop}
use lib.Seq.{take_at, take-append_seam}
use lib.Dec.{ltb}
use Rattle.base.specs.Buffers.{starts_with}
use Rattle.oce_model.specs.Model.{model_of}
use Rattle.oce_model.specs.Refusals.{refusal}
use Rattle.oce_model.specs.declared.Refusal.{Refusal}
use Rattle.oce_diag.specs.Diagnostics.{errors, warnings}
use Rattle.oce_diag.specs.Encoding.{report_bytes}
use Rattle.oce_diag.specs.declared.Counted.{Counted}
use Rattle.oce_diag.specs.declared.Diagnostic.{Diagnostic}
use Rattle.crossed_bounds.specs.Values.{Datum}
use Rattle.outcome.specs.Filled.{filled_of}
use Rattle.outcome.specs.Answer.{Answer, report_of, report_size, answer_for, answer, if_checked, filled_after, report_after}
use Rattle.moved.specs.Moved.{Choice, FiniteEnds, Left, Moved, OfTypes}
use Rattle.moved.proofs.Bytes.{Bytes}
use Rattle.oce_diag.proofs.Diagnostics.{no-errors, some-error}
use Rattle.moved.proofs.FilledImage.{filled-length, filled-accepted, filled-undone}
use Rattle.moved.proofs.Demand.{wired}

-- ---- an answer that is no refusal

pub record Checks (s : List ℕ) (c : Counted) : Type 0 where
  pub accepted : refusal s ≡ None
  pub counts : (c.errors ≡ errors (report_of s)) × (c.warnings ≡ warnings (report_of s))

refused-not : {X : Type 0} (r : Refusal) (c : Counted) → ◌≡◌ {A = Answer} (Err r) (Ok c) → X
refused-not r c h = absurd (let z : ◌≡◌ {A = ℕ} 0 1 = cc in omega arith)

pub checks : (s : List ℕ) (filled_room report_room : ℕ) (n : Counted) → answer s filled_room report_room ≡ Ok n → Checks s n
unfolding answer
checks s filled_room report_room n h = go (refusal s) refl h
  where
    ds : List Diagnostic
    ds = report_of s

    short : ℕ → ℕ → Refusal
    short k needed = record { number = k; offset = needed }

    counts : Counted
    counts = record { errors = errors ds; warnings = warnings ds }

    arm : refusal s ≡ None → (b c : Bool) → ◌≡◌ {A = Answer} (cond b (Err (short 9 (length s))) (cond c (Err (short 10 (report_size ds))) (Ok counts))) (Ok n) → Checks s n
    arm ok true c g = refused-not (short 9 (length s)) n g
    arm ok false true g = refused-not (short 10 (report_size ds)) n g
    arm ok false false g =
        let e : counts ≡ n = cc in
        record { accepted = ok; counts = (ap (λ (c : Counted). c.errors) (sym e), ap (λ (c : Counted). c.warnings) (sym e)) }

    go : (o : Option Refusal) → refusal s ≡ o → answer_for s filled_room report_room o ≡ Ok n → Checks s n
    go (Some r) q g = refused-not r n g
    go None q g = arm q (ltb filled_room (length s)) (ltb report_room (report_size ds)) g

-- ---- the two buffers

-- s is the image, f and r are the filled buffer and the report buffer at entry, a is the answer, f' and r' are the buffers at exit
pub moved : (s f r : List ℕ) (a : Answer) (f' r' : List ℕ) → Bytes s → a ≡ answer s (length f) (length r)
    → f' ≡ filled_after s f r → r' ≡ report_after s f r → Moved s a f' r'
unfolding filled_after report_after starts_with
moved s f r a f' r' bytes an fi re = record { left = λ c h. go c (sym an ∙ h) }
  where
    go : (c : Counted) → answer s (length f) (length r) ≡ Ok c → Left s c.errors c.warnings f' r'
    go c h = record {
      counts = k.counts;
      report = ap (take (length out)) (re ∙ ap (λ x. if_checked x (out ++ drop (length out) r) r) h) ∙ take-append_seam out (drop (length out) r);
      filled = front;
      again = rw front (filled-accepted s bytes k.accepted);
      undone = λ l. front ∙ filled-undone s bytes k.accepted (some-error (report_of s) (let z = k.counts.0 in omega arith));
      wired = λ z kinds. rw front (wired s bytes k.accepted (no-errors (report_of s) (sym k.counts.0 ∙ z)) kinds);
    }
      where
        k : Checks s c
        k = checks s (length f) (length r) c h

        out : List ℕ
        out = report_bytes (report_of s)

        front : take (length s) f' ≡ filled_of s
        front =
            ap (take (length s)) (fi ∙ ap (λ x. if_checked x (filled_of s ++ drop (length (filled_of s)) f) f) h)
            ∙ take_at (filled_of s) (drop (length (filled_of s)) f) (length s) (filled-length s k.accepted)

-- ---- part 7 as it is due, where every Real end that the image sets is finite: there is a choice of values. It needs no such premise
pub exists-finite : {s : List ℕ} {w : ℕ} {f r : List ℕ} → Left s 0 w f r → OfTypes (model_of s) → FiniteEnds (model_of s)
    → (x : ℕ → Datum) × Choice (model_of s) (model_of (take (length s) f)) x
exists-finite l kinds finite = (l.wired refl kinds).exists
