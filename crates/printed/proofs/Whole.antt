-- The lines of a report's bytes are those of its diagnostics, and pieces that follow one another are the whole.
use Prim.Native.Nat.{ℕ, suc, ◌+◌, ◌-◌, ◌<◌, ◌≤◌}
use native.Mathlib.Nat.{zero-add, add_assoc}
use native.Mathlib.Omega.{arith}
use mathlib.Core.Path.{◌≡◌, refl, sym, ap, ◌∙◌}
use mathlib.Core.List.{List, [], ◌∷◌, ◌++◌}
use Rattle.std.specs.Prelude.{None, Ok}
use lib.ListN.{length, get_or, drop}
use Rattle.base.specs.Lists.{each}
use Rattle.base.specs.Buffers.{starts_with}
use Rattle.base.proofs.Lists.{each-add, each_same}
use Rattle.numbers.specs.Bytes.{byte, byte_range}
use Rattle.oce_model.specs.Refusals.{refusal}
use Rattle.oce_diag.specs.Diagnostics.{errors, warnings}
use Rattle.oce_diag.specs.Encoding.{report_bytes}
use Rattle.oce_diag.specs.declared.Diagnostic.{Diagnostic}
use Rattle.oce_diag.proofs.Diagnostics.{errors-warnings}
use Rattle.oce_diag.specs.Decoded.{diagnostic_at, AllFitting}
use Rattle.oce_diag.proofs.Decoded.{report-back}
use Rattle.printed.proofs.Rules.{report_of-fits}
use Rattle.outcome.specs.Answer.{Answer, report_of}
use Rattle.printed.specs.Printed.{line, lines, first_line, printed, lines_from}

-- one piece behind another
pub lines_join : (s report : List ℕ) (from j k : ℕ) → lines_from s report from (j + k) ≡ lines_from s report from j ++ lines_from s report (from + j) k
unfolding lines_from
lines_join s report from j k =
    each-add j k (λ i. line s (diagnostic_at report (from + i)))
    ∙ ap (λ l. each j (λ i. line s (diagnostic_at report (from + i))) ++ l) (each_same k _ _ (λ i h. ap (λ n. line s (diagnostic_at report n)) (sym (add_assoc from j i))))

-- what was printed before, and a piece behind it
pub piece-next : (s report : List ℕ) (from next : ℕ) → from ≤ next → lines_from s report 0 from ++ lines_from s report from (next - from) ≡ lines_from s report 0 next
piece-next s report from next h =
    let n : from + (next - from) ≡ next = omega arith in
    sym (ap (lines_from s report 0) (sym n) ∙ lines_join s report 0 from (next - from) ∙ rw (zero-add from))

-- the lines of a list, by index
lines-each : (s : List ℕ) (ds : List Diagnostic) (e : Diagnostic) → each (length ds) (λ i. line s (get_or ds i e)) ≡ lines s ds
unfolding each lines
lines-each s [] e = refl
lines-each s (d ∷ ds) e =
    ap (λ k. each k f) n
    ∙ each-add 1 (length ds) f
    ∙ ap (λ l. line s d ++ l) (each_same (length ds) (λ i. f (1 + i)) (λ i. line s (get_or ds i e)) (λ i h. ap f (one i)) ∙ lines-each s ds e)
  where
    f : ℕ → List ℕ
    f i = line s (get_or (d ∷ ds) i e)

    n : suc (length ds) ≡ 1 + length ds
    n = omega arith

    one : (i : ℕ) → 1 + i ≡ suc i
    one i = omega arith

-- the lines of a report's bytes are those of its diagnostics, whatever stands behind them
pub lines-whole : (s : List ℕ) (ds : List Diagnostic) (b : List ℕ) → AllFitting ds → lines_from s (starts_with (report_bytes ds) b) 0 (length ds) ≡ lines s ds
unfolding lines_from starts_with
lines-whole s ds b f =
    each_same (length ds) (λ i. line s (diagnostic_at (report_bytes ds ++ drop (length (report_bytes ds)) b) (0 + i))) (λ i. line s (get_or ds i e))
    (λ i h. ap (line s) (ap (diagnostic_at (report_bytes ds ++ drop (length (report_bytes ds)) b)) (zero-add i) ∙ report-back ds (drop (length (report_bytes ds)) b) i e f h))
    ∙ lines-each s ds e
  where
    e : Diagnostic
    e = diagnostic_at [] 0

-- all that is printed for an accepted image: the first line, and the lines of as many diagnostics as were counted, from the report that a check leaves
pub printed-whole : (s b : List ℕ) → ((i : ℕ) → byte s i < byte_range) → refusal s ≡ None
    → let ds = report_of s in
    let a : Answer = Ok (record { errors = errors ds; warnings = warnings ds }) in
    printed s a ≡ first_line a ++ lines_from s (starts_with (report_bytes ds) b) 0 (errors ds + warnings ds)
unfolding printed
printed-whole s b f h = rw (errors-warnings (report_of s), lines-whole s (report_of s) b (report_of-fits s f h))
