-- Laws of a report that a check leaves.
use Prim.Native.Nat.{ℕ, ◌+◌, ◌-◌, ◌≤◌, ◌<◌}
use native.Mathlib.Omega.{arith}
use mathlib.Core.Path.{◌≡◌, refl, sym, ap, ◌∙◌}
use mathlib.Core.Bool.{Bool, true, false, cond}
use mathlib.Core.List.{List, [], ◌++◌, append-nil}
use Rattle.std.specs.Prelude.{Option, Some, None, Ok, Err, is_ok}
use lib.Dec.{ltb}
use lib.ListN.{length}
use borrow.Author.Tests.{ltb-false}
use Rattle.base.specs.Lists.{each}
use Rattle.base.specs.Buffers.{starts_with}
use Rattle.numbers.specs.Bytes.{byte, byte_range, word_range}
use Rattle.oce_model.specs.Refusals.{refusal}
use Rattle.oce_model.specs.declared.Refusal.{Refusal}
use Rattle.oce_diag.specs.Diagnostics.{errors, warnings}
use Rattle.oce_diag.specs.Encoding.{report_bytes}
use Rattle.oce_diag.proofs.Diagnostics.{errors-warnings}
use Rattle.oce_diag.specs.declared.Counted.{Counted}
use Rattle.outcome.specs.Answer.{Answer, report_of, report_size, answer_for, answer, if_checked, report_after}
use Rattle.printed.specs.Printed.{first_line, lines_from, printed, longest_line}
use Rattle.printed.specs.Pieces.{Row, Pieced}
use Rattle.field_lines.specs.Lines as listed
use Rattle.printed.proofs.Row.{row-report}
use Rattle.printed.proofs.Whole.{printed-whole}
use Rattle.print_check.specs.Outcome.{longest_report, count_of, Reported}

-- ---- the report that a check leaves is a row of the diagnostics that its answer counts

pub none_row : (b : List ℕ) → Row b 0
none_row b = record { found = λ i l. absurd (omega arith); after = λ i l. absurd (omega arith); fits = omega arith }

pub no_lines : (s report : List ℕ) → lines_from s report 0 0 ≡ []
unfolding lines_from each
no_lines s report = refl

-- what is known of an answer and its report
pub record Known (s : List ℕ) (a : Answer) (report : List ℕ) : Type 0 where
  pub accepted : {c : Counted} → a ≡ Ok c → refusal s ≡ None
  pub row : Row report (count_of a)
  pub few : count_of a < word_range
  pub whole : printed s a ≡ first_line a ++ lines_from s report 0 (count_of a)

module _ (s b : List ℕ) (bytes : (i : ℕ) → byte s i < byte_range) (filled room : ℕ) (short : room ≤ longest_report) where
  turned-away : (r : Refusal) → Known s (Err r) b
  unfolding printed
  turned-away r = record {
    accepted = λ e. cc;
    row = none_row b;
    few = omega arith;
    whole = rw (no_lines s b) (sym (append-nil (first_line (Err r))));
  }

  checked : refusal s ≡ None → report_size (report_of s) ≤ room → Known s (Ok (record { errors = errors (report_of s); warnings = warnings (report_of s) })) (starts_with (report_bytes (report_of s)) b)
  checked e fits = record {
    accepted = λ _. e;
    row = rw (errors-warnings (report_of s)) (row-report (report_of s) b);
    few = let n = errors-warnings (report_of s) in omega arith;
    whole = printed-whole s b bytes e;
  }

  known-for : (o : Option Refusal) → refusal s ≡ o → Known s (answer_for s filled room o) (if_checked (answer_for s filled room o) (starts_with (report_bytes (report_of s)) b) b)
  known-for (Some r) e = turned-away r
  known-for None e = arm (ltb filled (length s)) (ltb room (report_size (report_of s))) refl
    where
      short_filled : Refusal
      short_filled = record { number = 9; offset = length s }

      short_report : Refusal
      short_report = record { number = 10; offset = report_size (report_of s) }

      a : Bool → Bool → Answer
      a x y = cond x (Err short_filled) (cond y (Err short_report) (Ok (record { errors = errors (report_of s); warnings = warnings (report_of s) })))

      arm : (x y : Bool) → ltb room (report_size (report_of s)) ≡ y → Known s (a x y) (if_checked (a x y) (starts_with (report_bytes (report_of s)) b) b)
      arm true y q = turned-away short_filled
      arm false true q = turned-away short_report
      arm false false q = checked e (ltb-false room (report_size (report_of s)) q)

pub known : {s : List ℕ} {a : Answer} {report : List ℕ} → ((i : ℕ) → byte s i < byte_range) → Reported s a report → Known s a report
unfolding report_after answer
known {s} {a} {report} bytes v = rw (v.bytes, v.answer) (known-for s v.lent bytes (length v.filled) (length v.lent) v.short (refusal s) refl)

-- of a refused image there is the first line alone
pub refused_alone : (s : List ℕ) {a : Answer} {r : Refusal} → a ≡ Err r → printed s a ≡ first_line a
unfolding printed
refused_alone s e = rw e

-- ---- pieces of lines

-- a piece in which the longest line has room leaves fewer diagnostics
pub piece-less : {s report : List ℕ} {from count room next : ℕ} {b b' : List ℕ} → Pieced s report from count room b b' next → length b + longest_line ≤ room → from < count → count - next < count - from
piece-less p l h = let m = p.moves h l in omega (arith, m, p.within)

pub piece-within : {s report : List ℕ} {from count room next : ℕ} {b b' : List ℕ} → Pieced s report from count room b b' next → next ≤ count
piece-within p = p.within

-- the next field to list is in the image
pub fields_within : {s : List ℕ} {from room at : ℕ} {b b' : List ℕ} → listed.Pieced s from room b b' (Some at) → at ≤ length s
fields_within p = p.within

-- ---- what an answer says

pub counted-row : {a : Answer} {c : Counted} {b : List ℕ} → Row b (count_of a) → a ≡ Ok c → Row b (c.errors + c.warnings)
counted-row {c = c} {b = b} r q = rw q at r

pub checked-as : (s : List ℕ) (filled room : ℕ) {a : Answer} {r : Bool} → r ≡ is_ok a → a ≡ answer s filled room → room ≡ longest_report → r ≡ is_ok (answer s filled longest_report)
checked-as s filled room e q n = e ∙ ap is_ok q ∙ ap (λ (m : ℕ). is_ok (answer s filled m)) n
