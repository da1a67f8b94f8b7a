-- Laws of rule 6 over all roots.
use Prim.Native.Nat.{ℕ, ◌+◌, ◌*◌, ◌≤◌, ◌<◌}
use native.Mathlib.Omega.{arith}
use mathlib.Core.Path.{◌≡◌, ap, ◌∙◌}
use mathlib.Core.Bool.{true, false}
use mathlib.Core.List.{List}
use lib.ListN.{length}
use borrow.Author.Tests.{lt-ltb, le-ltb}
use Rattle.base.specs.Lists.{steps}
use Rattle.base.proofs.Lists.{steps_next}
use Rattle.oce_model.specs.Format.{most_connectors}
use Rattle.oce_model.specs.Model.{Model, model_of, connector_count}
use Rattle.oce_diag.specs.Reporting.{Room, Puts, Turns}
use Rattle.oce_diag.specs.declared.Diagnostic.{Diagnostic}
use Rattle.oce_diag.specs.declared.report.Report.{Report}
use Rattle.oce_diag.proofs.Reporting.{puts-none, turns-start, turns-next, turns-end, turns-room}
use Rattle.unify.specs.Clusters.{driven, is_root}
use Rattle.unify.specs.Details.{unified_details}
use Rattle.unify.specs.Slots.{Slots}
use Rattle.unify.specs.Unify.{fill_root, fill_details, root_faults, cluster_faults, filled_to, filled_slots, clusters_faults}
use Rattle.unify_clusters.specs.Slots.{SlotTable, loaded, filled_before, filled}
use Rattle.unify_links.specs.Links.{Gathered}
use Rattle.unify_cluster.specs.Clusters.{most_cluster_faults}
use Rattle.unify_clusters.specs.Unified.{most_roots_faults}

-- ---- one root

abbrev pub table : List ℕ → Slots → SlotTable
table s σ = record { image = s; attrs = σ }

module _ (s : List ℕ) {r : ℕ} {js : List ℕ} (g : Gathered (model_of s) r js) {t : SlotTable} (at : t ≡ filled_before s r) where
  abbrev pub m : Model
  m = model_of s

  module _ (h : length js ≤ 1) where
    not_root : is_root m r ≡ false
    unfolding is_root
    not_root = le-ltb 0 (length (driven m r)) (omega (arith, ap length g.cluster))

    pub no-root-filled : t ≡ filled_before s (r + 1)
    unfolding fill_root filled_to
    no-root-filled = at ∙ ap (table s) (rw (steps_next r, not_root))

    pub no-root-reported : {n : ℕ} {a : Report} → Puts n (root_faults m r (filled_to m r)) a a
    unfolding root_faults
    no-root-reported = rw not_root puts-none

  module _ (h : 1 < length js) where
    a-root : is_root m r ≡ true
    unfolding is_root
    a-root = lt-ltb 0 (length (driven m r)) (omega (arith, ap length g.cluster))

    pub root-filled : {σ : Slots} → σ ≡ fill_details (model_of t.image).texts js unified_details t.attrs → table t.image σ ≡ filled_before s (r + 1)
    unfolding fill_root filled_to
    root-filled e = rw (e, at) (ap (table s) (rw (steps_next r, a-root, ← g.cluster)))

    pub root-reported : {n : ℕ} {a b : Report} → Puts n (cluster_faults (model_of t.image) r js t.attrs) a b → Puts n (root_faults m r (filled_to m r)) a b
    unfolding root_faults
    root-reported p = rw (a-root, ← g.cluster) (rw at at p)

-- ---- all roots

-- what connector r reports, after the ones before it
abbrev pub faults_of : Model → ℕ → List Diagnostic
faults_of m r = root_faults m r (filled_to m r)

-- the roots before r
pub record Roots (s : List ℕ) (t : SlotTable) (a b : Report) (r : ℕ) : Type 0 where
  pub slots : t ≡ filled_before s r
  pub turns : Turns (faults_of (model_of s)) most_cluster_faults a b r

module _ (s : List ℕ) {t : SlotTable} {a : Report} where
  pub roots-start : t ≡ loaded s → Roots s t a a 0
  unfolding filled_to steps
  roots-start e = record { slots = e; turns = turns-start }

  module _ {b : Report} {r : ℕ} (v : Roots s t a b r) where
    pub roots-room : Room most_roots_faults a → r < connector_count (model_of s) → connector_count (model_of s) ≤ most_connectors → Room most_cluster_faults b
    roots-room h l k = turns-room v.turns (connector_count (model_of s)) most_connectors most_roots_faults h l k (omega arith)

    pub roots-next : {t' : SlotTable} {c : Report} → t' ≡ filled_before s (r + 1) → Puts most_cluster_faults (faults_of (model_of s) r) b c → Roots s t' a c (r + 1)
    roots-next e p = record { slots = e; turns = turns-next v.turns p }

    pub roots-filled : r ≡ connector_count (model_of s) → t ≡ filled s
    unfolding filled_slots
    roots-filled e = v.slots ∙ rw e

    pub roots-reported : r ≡ connector_count (model_of s) → Puts (most_cluster_faults * connector_count (model_of s)) (clusters_faults (model_of s)) a b
    unfolding clusters_faults
    roots-reported e = turns-end v.turns (connector_count (model_of s)) (most_cluster_faults * connector_count (model_of s)) e (omega arith) (omega arith)
