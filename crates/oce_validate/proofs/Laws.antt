-- Each way that a checking call can end gives what the definitions say.
use Prim.Native.Nat.{ℕ, ◌*◌, ◌<◌, ◌≤◌}
use native.Mathlib.Omega.{arith}
use mathlib.Core.Path.{◌≡◌, refl, sym, ap, ◌∙◌}
use mathlib.Core.List.{List}
use Rattle.std.specs.Prelude.{Some, None, Ok, Err}
use lib.ListN.{length, take}
use lib.Seq.{take-append_seam}
use mir.Syntax.{w32}
use mir.Val.{Fits}
use borrow.Author.Tests.{lt-ltb, le-ltb}
use Rattle.base.specs.Buffers.{starts_with, patch}
use Rattle.base.proofs.Buffers.{starts_with-patch}
use Rattle.oce_model.specs.Refusals.{refusal}
use Rattle.oce_model.specs.declared.Refusal.{Refusal}
use Rattle.oce_model.proofs.Accepted.{accepted}
use Rattle.oce_diag.specs.Diagnostics.{errors, warnings}
use Rattle.oce_diag.specs.Encoding.{diagnostic_size, report_bytes}
use Rattle.oce_diag.specs.Putting.{total}
use Rattle.oce_diag.specs.declared.Counted.{Counted}
use Rattle.oce_diag.proofs.Diagnostics.{errors-warnings, no-errors, some-error}
use Rattle.oce_diag.proofs.Putting.{put-errors, put-warnings, put-room, put_all-length}
use Rattle.oce_diag.proofs.Encoding.{report_bytes-length}
use Rattle.unify_clusters.specs.Slots.{SlotTable}
use Rattle.outcome.specs.Filled.{with_slots, filled_of}
use Rattle.outcome.specs.Report.{final_slots}
use Rattle.outcome.specs.Answer.{report_of, report_size, answer, filled_after, report_after}
use Rattle.rules.specs.Ran.{Ran}
use Rattle.moved.proofs.Bytes.{Bytes}
use Rattle.moved.proofs.FilledImage.{filled-undone}
use Rattle.oce_validate.specs.Answered.{Answered, Tallied, Early}

-- ---- a run of all rules

module _ {s b b' : List ℕ} {t : SlotTable} {c : Counted} (q : Ran s t b b' c) where
  pub tallied : Tallied s t c
  unfolding report_of
  tallied = record { errors = put-errors q.put refl; warnings = put-warnings q.put refl; few = q.few; slots = q.slots }

  -- over a report with room for what was counted before
  pub report-written : {before : SlotTable} {n : Counted} → Tallied s before n → diagnostic_size * total n ≤ length b → b' ≡ starts_with (report_bytes (report_of s)) b
  unfolding report_of
  report-written {n = n} y l =
      let k : total n ≡ length (report_of s) = omega (arith, y.errors, y.warnings, errors-warnings (report_of s)) in
      put-room q.put refl (rw k at l)

  -- over a buffer of any length: it holds the report, if that fits
  pub early-written : Early s b'
  unfolding report_of starts_with
  early-written = record { bytes = holds }
    where
      holds : report_size (report_of s) ≤ length b' → take (report_size (report_of s)) b' ≡ report_bytes (report_of s)
      holds l =
          let k : length b' ≡ length b = ap length q.put.bytes ∙ put_all-length _ b 0 in
          let e : b' ≡ starts_with (report_bytes (report_of s)) b = put-room q.put refl (omega arith) in
          let n = report_bytes-length (report_of s) in
          rw (e, ← n) (take-append_seam (report_bytes (report_of s)) _)

-- ---- what is left in the buffers

module _ {s : List ℕ} {w : SlotTable} {c : Counted} (t : Tallied s w c) where
  -- the report is copied
  pub early-copied : {e : List ℕ} (r : List ℕ) {r' : List ℕ} (k : ℕ) → Early s e → k ≡ diagnostic_size * total c → k ≤ length e → r' ≡ patch r 0 (take k e) → r' ≡ starts_with (report_bytes (report_of s)) r
  early-copied {e} r k h p l q =
      let n : k ≡ report_size (report_of s) = p ∙ ap (λ x. diagnostic_size * x) (omega (arith, t.errors, t.warnings, errors-warnings (report_of s))) in
      let b : take k e ≡ report_bytes (report_of s) = rw n (h.bytes (omega arith)) in
      q ∙ rw b (sym (starts_with-patch (report_bytes (report_of s)) r))

  -- with an error the image stays as it is
  pub filled-kept : (f : List ℕ) {f' : List ℕ} → refusal s ≡ None → Bytes s → f' ≡ starts_with s f → 0 < c.errors → f' ≡ starts_with (filled_of s) f
  filled-kept f h bytes e n = e ∙ ap (λ x. starts_with x f) (sym (filled-undone s bytes h (some-error (report_of s) (omega (arith, t.errors)))))

  final : c.errors ≡ 0 → with_slots w.image w.attrs ≡ filled_of s
  unfolding filled_of final_slots report_of
  final z = rw (t.slots, no-errors (report_of s) (sym t.errors ∙ z))

  -- with no error the slots' attributes stand in it
  pub filled-written : (f : List ℕ) {f' : List ℕ} → f' ≡ starts_with (with_slots w.image w.attrs) f → c.errors ≤ 0 → f' ≡ starts_with (filled_of s) f
  filled-written f e z = e ∙ ap (λ x. starts_with x f) (final (omega arith))

-- ---- sizes

pub image-small : (s : List ℕ) → refusal s ≡ None → Fits w32 (length s)
image-small s h = record { fits = omega (arith, (accepted s h).short) }

-- ---- the answer

-- an answer that is known gives the buffers
refused-so : (s f r : List ℕ) (x : Refusal) → answer s (length f) (length r) ≡ Err x → Answered s f r (Err x) f r
unfolding filled_after report_after
refused-so s f r x e = record { answer = sym e; filled = rw e; report = rw e }

checked-so : (s f r : List ℕ) (c : Counted) → answer s (length f) (length r) ≡ Ok c → Answered s f r (Ok c) (starts_with (filled_of s) f) (starts_with (report_bytes (report_of s)) r)
unfolding filled_after report_after
checked-so s f r c q = record { answer = sym q; filled = rw q; report = rw q }

-- refusals 1 to 8
pub turned-away : {s : List ℕ} (f r : List ℕ) {x : Refusal} → refusal s ≡ Some x → Answered s f r (Err x) f r
unfolding answer
turned-away {s} f r {x} e = refused-so s f r x (rw e)

module _ {s : List ℕ} (f r : List ℕ) (h : refusal s ≡ None) where
  -- refusal 9
  pub short-filled : length f < length s → Answered s f r (Err (record { number = 9; offset = length s })) f r
  unfolding answer
  short-filled l = refused-so s f r _ (rw (h, lt-ltb (length f) (length s) l))

  module _ {w : SlotTable} {c : Counted} (t : Tallied s w c) where
    size_is : diagnostic_size * total c ≡ report_size (report_of s)
    size_is = let e = t.errors in let w = t.warnings in let n = errors-warnings (report_of s) in ap (λ k. diagnostic_size * k) (omega arith)

    -- refusal 10
    pub short-report : {z : ℕ} → z ≡ diagnostic_size * total c → length s ≤ length f → length r < z → Answered s f r (Err (record { number = 10; offset = z })) f r
    unfolding answer
    short-report e k l =
        let g : length r < report_size (report_of s) = rw (e, size_is) at l in
        rw (e, size_is) (refused-so s f r _ (rw (h, le-ltb (length f) (length s) k, lt-ltb (length r) (report_size (report_of s)) g)))

    counts-are : ◌≡◌ {A = Counted} (record { errors = errors (report_of s); warnings = warnings (report_of s) }) c
    counts-are = rw (← t.errors, ← t.warnings) refl

    -- no refusal
    pub reported : {z : ℕ} {f' r' : List ℕ} → z ≡ diagnostic_size * total c → f' ≡ starts_with (filled_of s) f → r' ≡ starts_with (report_bytes (report_of s)) r → length s ≤ length f → z ≤ length r
        → Answered s f r (Ok c) f' r'
    unfolding answer
    reported e ef er k l =
        let g : report_size (report_of s) ≤ length r = rw (e, size_is) at l in
        rw (ef, er)
        (checked-so s f r c (rw (h, le-ltb (length f) (length s) k, le-ltb (length r) (report_size (report_of s)) g) (ap Ok counts-are)))
