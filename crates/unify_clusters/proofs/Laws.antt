-- Laws of all of rule 6.
use Prim.Native.Nat.{ℕ, ◌+◌, ◌*◌}
use native.Mathlib.Decide.{ℕ_discrete}
use native.Mathlib.Omega.{arith}
use mathlib.Core.Path.{◌≡◌, sym, ◌∙◌}
use mathlib.Core.Bool.{cond, ◌||◌}
use mathlib.Core.List.{List, ◌++◌}
use lib.Dec.{ltb}
use borrow.Author.Tests.{lt-ltb, le-ltb}
use Rattle.oce_model.specs.Model.{Model, model_of, connector_count}
use Rattle.oce_diag.specs.Diagnostics.{errors, has_error}
use Rattle.oce_diag.specs.Reporting.{Puts}
use Rattle.oce_diag.specs.declared.report.Report.{Report}
use Rattle.oce_diag.proofs.Diagnostics.{no-errors, some-error}
use Rattle.oce_diag.proofs.Reporting.{puts-within, puts-more}
use Rattle.unify.specs.Unify.{clusters_faults, propagated, rule6}
use Rattle.unify_clusters.specs.Slots.{SlotTable, filled}
use Rattle.unify_cluster.specs.Clusters.{most_cluster_faults}
use Rattle.unify_clusters.specs.Unified.{Unified}

-- what rule 6 adds to a list that holds e errors, by whether there is an error after all roots
rule6-tested : (m : Model) (e : ℕ) → e + errors (clusters_faults m) ≡ 0 → rule6 m (ltb 0 e) ≡ clusters_faults m ++ propagated m
unfolding rule6
rule6-tested m e h = rw (le-ltb 0 e (omega arith), no-errors (clusters_faults m) (omega arith))

rule6-not : (m : Model) (e : ℕ) → (e + errors (clusters_faults m) ≡ 0 → ⊥) → rule6 m (ltb 0 e) ≡ clusters_faults m
unfolding rule6
rule6-not m e h = arm (ℕ_discrete e 0)
  where
    arm : Dec (e ≡ 0) → cond (ltb 0 e || has_error (clusters_faults m)) (clusters_faults m) (clusters_faults m ++ propagated m) ≡ clusters_faults m
    arm (yes z) = rw (le-ltb 0 e (omega arith), some-error (clusters_faults m) (omega arith))
    arm (no z) = rw (lt-ltb 0 e (omega arith))

module _ (s : List ℕ) {t : SlotTable} {a b : Report} (f : t ≡ filled s) (p : Puts (most_cluster_faults * connector_count (model_of s)) (clusters_faults (model_of s)) a b) where
  abbrev pub m : Model
  m = model_of s

  pub unified-tested : {c : Report} → Puts (connector_count m) (propagated m) b c → b.counted.errors ≡ 0 → Unified s t a c
  unified-tested q e = record {
    slots = f;
    puts = rw (rule6-tested m a.counted.errors (sym p.put.errors ∙ e)) (puts-within p q (omega arith));
  }

  pub unified-not : (b.counted.errors ≡ 0 → ⊥) → Unified s t a b
  unified-not e = record {
    slots = f;
    puts = puts-more p (omega arith) (sym (rule6-not m a.counted.errors (λ z. e (p.put.errors ∙ z))));
  }
