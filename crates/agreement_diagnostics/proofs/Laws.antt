-- Laws of stored diagnostics beside those of a report.
use Prim.Native.Nat.{ℕ, suc, ◌+◌, ◌<◌, ◌≤◌}
use native.Mathlib.Numerals.{add-one}
use native.Mathlib.Omega.{arith}
use mathlib.Core.Path.{◌≡◌, refl, sym, ◌∙◌}
use mathlib.Core.Bool.{Bool, true, false, and-false}
use mathlib.Core.List.{List}
use lib.Dec.{eqb}
use lib.ListN.{length, take, drop, drop_of_length-le}
use borrow.Author.Tests.{lt-ltb, le-ltb}
use Rattle.std.specs.Prelude.{Ok, Err}
use Rattle.base.specs.Lists.{steps, same}
use Rattle.base.proofs.Lists.{steps_next}
use Rattle.numbers.specs.Bytes.{le16}
use Rattle.numbers.proofs.Bytes.{byte_past}
use Rattle.oce_diag.specs.Encoding.{code_number, subject_kind, subject_number}
use Rattle.oce_diag.specs.Decoded.{diagnostic_at}
use Rattle.oce_diag.specs.declared.DiagCode.{DiagCode}
use Rattle.oce_diag.specs.declared.DiagCode.TheVariants.{MalformedDocument, DirectionMismatch, SingleAssignment, TypeMismatch, UnitQuantityMismatch, BoundMismatch, CrossedBounds, DisplayUnitDivergence}
use Rattle.oce_diag.specs.declared.Diagnostic.{Diagnostic}
use Rattle.oce_diag.specs.declared.Subject.{Subject}
use Rattle.subject.specs.Subject.{least_scratch, scratch_after, part}
use Rattle.subject.proofs.Laws.{read-written}
use Rattle.agreement_diagnostics.specs.Diagnostics.{code_at, text_length_at, text_at, same_fields, same_subject, agrees, behind, place_of, alike, compared, Reported, Agreed}

-- ---- one diagnostic

-- the subject's text, read where it was written
pub subject-same : (f : List ℕ) (at : ℕ) (s : List ℕ) (x : Subject) (blank : List ℕ) {kind number : ℕ} {scratch ours theirs : List ℕ} {len : ℕ} {t : Bool} → t ≡ same ours theirs
    → ours ≡ part s scratch kind number → scratch ≡ scratch_after s kind number blank → kind ≡ subject_kind x → number ≡ subject_number x → least_scratch ≤ length blank
    → theirs ≡ take len (drop (at + text_at) f) → len ≡ le16 f (at + text_length_at) → t ≡ same_subject f at s x
unfolding same_subject
subject-same f at s x blank {kind} {number} e eo es ek en h et el =
    e ∙ rw (eo, es, read-written s blank kind number h, ek, en, et, el)

-- no code is 0
code-some : (c : DiagCode) → eqb 0 (code_number c) ≡ false
code-some MalformedDocument = refl
code-some DirectionMismatch = refl
code-some SingleAssignment = refl
code-some TypeMismatch = refl
code-some UnitQuantityMismatch = refl
code-some BoundMismatch = refl
code-some CrossedBounds = refl
code-some DisplayUnitDivergence = refl

-- behind the file's end nothing agrees
past : (f : List ℕ) (at : ℕ) (s : List ℕ) (d : Diagnostic) → length f < at → agrees f at s d ≡ false
unfolding agrees same_fields
past f at s d h =
    let n : length f ≤ at + code_at = omega arith in
    rw (← (byte_past f (at + code_at) n), code-some d.code, and-false)

-- ---- all of them

module _ {f : List ℕ} {start : ℕ} {s : List ℕ} {ds : List Diagnostic} where
  pub agreed-start : Agreed f start s ds start 0
  unfolding place_of steps
  agreed-start = record { within = omega arith; same = omega arith; place = refl }

  module _ {at n : ℕ} (v : Agreed f start s ds at n) where
    -- the report has no more
    pub agreed-end : {count : ℕ} → count ≡ length ds → count ≤ n → Ok at ≡ compared f start s ds
    unfolding alike compared
    agreed-end e h =
        let l : length ds ≤ n = omega arith in
        let z : alike f at s (drop n ds) ≡ 0 = rw (drop_of_length-le ds l) in
        let k : alike f start s ds ≡ n = omega (arith, v.same) in
        rw (v.place, k, le-ltb n (length ds) l)

    module _ {report : List ℕ} (r : Reported ds report) {count : ℕ} (e : count ≡ length ds) (h : n < count) where
      here : n < length ds
      here = omega arith

      -- a diagnostic that agrees
      one : agrees f at s (diagnostic_at report n) ≡ true → alike f at s (drop n ds) ≡ suc (alike f (behind f at) s (drop (suc n) ds))
      unfolding alike
      one g = rw (r.next n here, g)

      pub agreed-turn : {d : Diagnostic} {t : Bool} {len : ℕ} → d ≡ diagnostic_at report n → t ≡ agrees f at s d → t ≡ true → len ≡ le16 f (at + text_length_at) → Agreed f start s ds (at + (text_at + len)) (n + 1)
      unfolding place_of
      agreed-turn {d} {t} {len} ed et g el =
          let a : agrees f at s (diagnostic_at report n) ≡ true = rw (← ed) (sym et ∙ g) in
          let b = one a in
          record {
            within = omega arith;
            same = rw (el, add-one n) (omega (arith, v.same));
            place = rw (el, steps_next n (λ i x. behind f x) start, ← v.place);
          }

      -- one that doesn't
      other : agrees f at s (diagnostic_at report n) ≡ false → Err n ≡ compared f start s ds
      unfolding alike compared
      other g =
          let z : alike f at s (drop n ds) ≡ 0 = rw (r.next n here, g) in
          let k : alike f start s ds ≡ n = omega (arith, v.same) in
          rw (k, lt-ltb n (length ds) here)

      pub agreed-differs : {d : Diagnostic} {t : Bool} → d ≡ diagnostic_at report n → t ≡ agrees f at s d → t ≡ false → Err n ≡ compared f start s ds
      agreed-differs ed et g = other (rw (← ed) (sym et ∙ g))

      pub agreed-past : length f < at → Err n ≡ compared f start s ds
      agreed-past g = other (past f at s (diagnostic_at report n) g)
