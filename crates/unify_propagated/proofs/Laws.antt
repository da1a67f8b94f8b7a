-- Laws of 6.8.
use Prim.Native.Nat.{ℕ, ◌≤◌}
use native.Mathlib.Omega.{arith}
use mathlib.Core.Path.{◌≡◌, ◌∙◌}
use mathlib.Core.Bool.{Bool, true, false}
use mathlib.Core.List.{[], ◌∷◌}
use lib.ListN.{length}
use Rattle.oce_model.specs.Model.{Model, connector, connector_count}
use Rattle.oce_diag.specs.Diagnostics.{subject_of, error}
use Rattle.oce_diag.specs.Reporting.{Puts, Turns}
use Rattle.oce_diag.specs.declared.DiagCode.TheVariants.{CrossedBounds}
use Rattle.oce_diag.specs.declared.Diagnostic.{Diagnostic}
use Rattle.oce_diag.specs.declared.Subject.{Subject}
use Rattle.oce_diag.specs.declared.report.Report.{Report}
use Rattle.oce_diag.proofs.Reporting.{puts-none, turns-end}
use Rattle.crossed_bounds.specs.Ranges.{range_of, crossed}
use Rattle.crossed_bounds.specs.Ends.{Range}
use Rattle.unify.specs.Clusters.{is_root}
use Rattle.unify.specs.Slots.{Slots, slot}
use Rattle.unify.specs.Unify.{filled_slots, propagated_faults, propagated}
use Rattle.unify.proofs.Local.{filled_to-length}

-- ---- one root

module _ (m : Model) (σ : Slots) (r : ℕ) {b : Bool} (eb : b ≡ is_root m r) where
  pub test-no-root : b ≡ false → {rep : Report} → Puts 1 (propagated_faults m σ r) rep rep
  unfolding propagated_faults
  test-no-root e = rw (← eb, e) puts-none

  module _ (e : b ≡ true) {x : Range} (ex : x ≡ range_of m.defaults (slot σ r)) {t : Bool} (et : t ≡ crossed x) where
    pub test-same : t ≡ false → {rep : Report} → Puts 1 (propagated_faults m σ r) rep rep
    unfolding propagated_faults
    test-same f = rw (← eb, e, ← ex, ← et, f) puts-none

    pub test-crossed : {rep rep' : Report} {s : Subject} {d : Diagnostic} → Puts 1 (d ∷ []) rep rep' → d ≡ error CrossedBounds 6 8 s r → s ≡ subject_of (connector m r) → t ≡ true
        → Puts 1 (propagated_faults m σ r) rep rep'
    unfolding propagated_faults
    test-crossed p ed es f = rw (← eb, e, ← ex, ← et, f, ← es, ← ed) p

-- ---- all roots

pub filled-long : (m : Model) {σ : Slots} → σ ≡ filled_slots m → connector_count m ≤ length σ
unfolding filled_slots
filled-long m e = rw e (omega (arith, filled_to-length m (connector_count m)))

pub propagated-all : (m : Model) {σ : Slots} {n : ℕ} {rep rep' : Report} → σ ≡ filled_slots m → n ≡ connector_count m → {r : ℕ} → Turns (propagated_faults m σ) 1 rep rep' r → r ≡ n
    → Puts (connector_count m) (propagated m) rep rep'
unfolding propagated
propagated-all m es en v e = rw (← es) (turns-end v (connector_count m) (connector_count m) (e ∙ en) (omega arith) (omega arith))
