-- The report of a model from the runs that make it.
use Prim.Native.Nat.{ℕ, ◌+◌, ◌≤◌}
use native.Mathlib.Nat.{zero-add, mul-le-mul_left}
use native.Mathlib.Decide.{ℕ_discrete}
use native.Mathlib.Omega.{arith}
use mathlib.Core.Path.{◌≡◌, ap, ◌∙◌}
use mathlib.Core.List.{List}
use lib.Dec.{ltb}
use borrow.Author.Tests.{lt-ltb, le-ltb}
use Rattle.oce_model.specs.Format.{most_connectors}
use Rattle.oce_model.specs.Model.{Model, model_of, connector_count}
use Rattle.oce_diag.specs.Diagnostics.{has_error, errors}
use Rattle.oce_diag.specs.declared.Diagnostic.{Diagnostic}
use Rattle.oce_diag.specs.declared.Counted.{Counted}
use Rattle.oce_diag.specs.Putting.{Put}
use Rattle.oce_diag.specs.Reporting.{Puts}
use Rattle.oce_diag.specs.declared.report.Report.{Report}
use Rattle.oce_diag.proofs.Diagnostics.{no-errors, some-error}
use Rattle.oce_diag.proofs.Putting.{put_then}
use Rattle.unify_clusters.specs.Slots.{SlotTable}
use Rattle.unify_cluster.specs.Clusters.{most_cluster_faults}
use Rattle.unify.specs.Unify.{rule6}
use Rattle.unify_clusters.specs.Unified.{Unified}
use Rattle.outcome.specs.Report.{report, rules_before6}
use Rattle.rules.specs.Ran.{none, most_before6, Ran}

-- a list holds an error exactly if errors are counted in it
counted-errors : (ds : List Diagnostic) → ltb 0 (errors ds) ≡ has_error ds
counted-errors ds = arm (ℕ_discrete (errors ds) 0)
  where
    arm : Dec (errors ds ≡ 0) → ltb 0 (errors ds) ≡ has_error ds
    arm (yes e) = rw (le-ltb 0 (errors ds) (omega arith), no-errors ds e)
    arm (no n) = rw (lt-ltb 0 (errors ds) (omega arith), some-error ds (omega arith))

-- a run from nothing counted
ran-put : (m : Model) {b b' b'' : List ℕ} {c' c'' : Counted} → Put b none (rules_before6 m) b' c' → Put b' c' (rule6 m (ltb 0 c'.errors)) b'' c'' → Put b none (report m) b'' c''
unfolding report
ran-put m {b} {b'} {b''} {c'} {c''} p q =
    let f : c'.errors ≡ errors (rules_before6 m) = p.errors ∙ zero-add (errors (rules_before6 m)) in
    let g : ltb 0 c'.errors ≡ has_error (rules_before6 m) = ap (ltb 0) f ∙ counted-errors (rules_before6 m) in
    put_then p (rw g at q)

-- rules 1 to 5, and then rule 6
pub ran : (s : List ℕ) {t : SlotTable} {r₀ r r' : Report} → connector_count (model_of s) ≤ most_connectors → r₀.counted ≡ none → Puts most_before6 (rules_before6 (model_of s)) r₀ r → Unified s t r r'
    → Ran s t r₀.bytes.now r'.bytes.now r'.counted
ran s h e p u =
    let m = model_of s in
    let first : Put _ none (rules_before6 (model_of s)) _ _ = rw e at p.put in
    record {
      slots = u.slots;
      put = ran-put m first u.puts.put;
      few = omega (arith, p.few, u.puts.few, ap (λ (c : Counted). c.errors + c.warnings) e, mul-le-mul_left {m = connector_count m} {n = most_connectors} (most_cluster_faults + 1) h);
    }
