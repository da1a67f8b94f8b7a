-- Laws of one cluster.
use Prim.Native.Nat.{ℕ, ◌+◌, ◌≤◌, ◌<◌}
use native.Mathlib.Numerals.{add-one}
use native.Mathlib.Omega.{arith}
use mathlib.Core.Path.{◌≡◌, refl, sym, ap, ◌∙◌}
use mathlib.Core.Bool.{Bool, true, false, ◌&&◌}
use mathlib.Core.List.{List, [], ◌∷◌, ◌++◌, append-nil, append_assoc}
use lib.Dec.{eqb}
use lib.ListN.{length, get_or, drop, drop_of_length-le}
use lib.Seq.{drop-cons}
use Rattle.oce_model.specs.Model.{Model, model_of, connector, connector_count}
use Rattle.oce_model.specs.declared.ConnectorFront.{ConnectorFront}
use Rattle.image_records.specs.Records.{connector_read}
use Rattle.oce_diag.specs.Diagnostics.{connector_subject, subject_of, error, warning}
use Rattle.oce_diag.specs.Reporting.{Puts}
use Rattle.oce_diag.specs.declared.DiagCode.{DiagCode}
use Rattle.oce_diag.specs.declared.DiagCode.TheVariants.{UnitQuantityMismatch, BoundMismatch, DisplayUnitDivergence}
use Rattle.oce_diag.specs.declared.Diagnostic.{Diagnostic}
use Rattle.oce_diag.specs.declared.Subject.{Subject}
use Rattle.oce_diag.specs.declared.report.Report.{Report}
use Rattle.oce_diag.proofs.Reporting.{puts-none, puts-within, puts-more}
use Rattle.unify.specs.Details.{detail_number, is_text, unified_details}
use Rattle.unify.specs.Unify.{declarations, fill, conflict, conflict_code, fill_faults, display_faults, fill_details, details_faults, cluster_faults}
use Rattle.unify.specs.declared.Detail.{Detail}
use Rattle.unify.specs.declared.Detail.TheVariants.{Unit, DisplayUnit}
use Rattle.unify.proofs.Undeclared.{fill-undeclared, faults-undeclared, display-undeclared, fill-keeps, details-undeclared, cluster-undeclared}
use Rattle.unify.specs.Slots.{Slots}
use Rattle.unify_seen.specs.Seen.{Sees, shows}
use Rattle.unify_seen.proofs.Laws.{undeclared, nothing-shows}
use Rattle.unify_cluster.specs.Clusters.{unified_count, most_cluster_faults, Stands}
use Rattle.unify_cluster.specs.declared.ClusterMembers.{ClusterMembers}

-- ---- diagnostics

pub subject-is : (s : List ℕ) (r : ℕ) {c : ConnectorFront} {t : Subject} → c ≡ connector_read (connector (model_of s) r) → t ≡ connector_subject c.iri c.id → t ≡ subject_of (connector (model_of s) r)
unfolding connector_read subject_of
subject-is s r ec et = et ∙ ap (λ (c : ConnectorFront). connector_subject c.iri c.id) ec

module _ (d : Detail) {t : Bool} (et : t ≡ is_text d) where
  pub code-text : t ≡ true → UnitQuantityMismatch ≡ conflict_code d
  unfolding conflict_code
  code-text e = rw (← et, e)

  pub code-end : t ≡ false → BoundMismatch ≡ conflict_code d
  unfolding conflict_code
  code-end e = rw (← et, e)

-- ---- one detail

abbrev pub model : ClusterMembers → Model
model c = model_of c.image.now

module _ {c : ClusterMembers} {σ : Slots} (y : Stands σ c) (d : Detail) where
  abbrev pub m : Model
  m = model c

  -- one that doesn't show
  module _ {t : Bool} (et : t ≡ shows d c.seen.real c.seen.integer) (e : t ≡ false) where
    none : declarations d σ c.members.now ≡ []
    none = y.unseen d (sym et ∙ e)

    pub filled-skip : σ ≡ fill m.texts c.members.now d σ
    filled-skip = sym (fill-undeclared m.texts c.members.now d σ none)

    pub reported-skip : {r : Report} → Puts 1 (fill_faults m c.root.0 c.members.now d σ) r r
    reported-skip = rw (faults-undeclared m c.members.now d σ none c.root.0) puts-none

  -- what no member declares, none declares after a detail
  pub stands-filled : {σ' : Slots} → σ' ≡ fill m.texts c.members.now d σ → Stands σ' c
  stands-filled e = rw e (record { root = y.root; unseen = λ x h. fill-keeps m.texts c.members.now x d σ (y.unseen x h) })

-- after a list of details
pub stands-details : {c : ClusterMembers} (ds : List Detail) (σ : Slots) → Stands σ c → Stands (fill_details (model c).texts c.members.now ds σ) c
unfolding fill_details
stands-details [] σ y = y
stands-details {c} (d ∷ ds) σ y = stands-details ds (fill (model c).texts c.members.now d σ) (stands-filled y d refl)

module _ (m : Model) (r : ℕ) (js : List ℕ) (σ : Slots) {t : Bool} where
  module _ (d : Detail) (et : t ≡ conflict m.texts d (declarations d σ js)) where
    pub reported-none : {rep : Report} → t ≡ false → Puts 1 (fill_faults m r js d σ) rep rep
    unfolding fill_faults
    reported-none e = rw (← et, e) puts-none

    pub reported-conflict : {rep rep' : Report} {n : ℕ} {code : DiagCode} {s : Subject} {x : Diagnostic} → Puts 1 (x ∷ []) rep rep' → x ≡ error code 6 n s r → n ≡ detail_number d
        → code ≡ conflict_code d → s ≡ subject_of (connector m r) → t ≡ true → Puts 1 (fill_faults m r js d σ) rep rep'
    unfolding fill_faults
    reported-conflict p ex en ec es e = rw (← et, e, ← ec, ← en, ← es, ← ex) p

  -- ---- 6.7

  module _ (et : t ≡ conflict m.texts DisplayUnit (declarations DisplayUnit σ js)) where
    pub display-none : {rep : Report} → t ≡ false → Puts 1 (display_faults m r js σ) rep rep
    unfolding display_faults
    display-none e = rw (← et, e) puts-none

    pub display-differ : {rep rep' : Report} {n : ℕ} {s : Subject} {x : Diagnostic} → Puts 1 (x ∷ []) rep rep' → x ≡ warning DisplayUnitDivergence 6 n s r → n ≡ detail_number DisplayUnit
        → s ≡ subject_of (connector m r) → t ≡ true → Puts 1 (display_faults m r js σ) rep rep'
    unfolding display_faults
    display-differ p ex en es e = rw (← et, e, ← en, ← es, ← ex) p

pub display-skip : {c : ClusterMembers} {σ : Slots} {t : Bool} {r : Report} → Stands σ c → t ≡ shows DisplayUnit c.seen.real c.seen.integer → t ≡ false
    → Puts 1 (display_faults (model c) c.root.0 c.members.now σ) r r
display-skip {c} {σ} y et e = rw (display-undeclared (model c) c.members.now σ (y.unseen DisplayUnit (sym et ∙ e)) c.root.0) puts-none

-- ---- details in turn

unified-count : length unified_details ≡ unified_count
unfolding unified_details
unified-count = refl

-- the details before i are filled, and `done` is what they reported
pub record Turns (c : ClusterMembers) (σ₀ : Slots) (r₀ : Report) (σ : Slots) (r : Report) (i : ℕ) : Type 0 where
  pub stands : Stands σ c
  pub slots : fill_details (model c).texts c.members.now unified_details σ₀ ≡ fill_details (model c).texts c.members.now (drop i unified_details) σ
  pub done : List Diagnostic
  pub faults : details_faults (model c) c.root.0 c.members.now unified_details σ₀ ≡ done ++ details_faults (model c) c.root.0 c.members.now (drop i unified_details) σ
  pub puts : Puts i done r₀ r

module _ {c : ClusterMembers} {σ₀ : Slots} {r₀ : Report} where
  pub turns-start : Stands σ₀ c → Turns c σ₀ r₀ σ₀ r₀ 0
  turns-start y = record { stands = y; slots = refl; done = []; faults = refl; puts = puts-none }

  module _ {σ : Slots} {r : Report} {i : ℕ} (v : Turns c σ₀ r₀ σ r i) where
    rest : i < unified_count → drop i unified_details ≡ get_or unified_details i Unit ∷ drop (i + 1) unified_details
    rest h = rw add-one (drop-cons unified_details i Unit (rw unified-count h))

    pub turns-next : {d : Detail} {σ' : Slots} {r' : Report} → d ≡ get_or unified_details i Unit → σ' ≡ fill (model c).texts c.members.now d σ
        → Puts 1 (fill_faults (model c) c.root.0 c.members.now d σ) r r' → i < unified_count → Turns c σ₀ r₀ σ' r' (i + 1)
    unfolding fill_details details_faults
    turns-next {d} {σ'} ed es p h =
        let m = model c in
        let js = c.members.now in
        let ds = drop (i + 1) unified_details in
        let q : drop i unified_details ≡ d ∷ drop (i + 1) unified_details = rest h ∙ ap (λ (x : Detail). x ∷ drop (i + 1) unified_details) (sym ed) in
        record {
          stands = stands-filled v.stands d es;
          slots = v.slots ∙ ap (λ l. fill_details m.texts js l σ) q ∙ ap (fill_details m.texts js ds) (sym es);
          done = v.done ++ fill_faults m c.root.0 js d σ;
          faults = v.faults ∙ ap (λ l. v.done ++ details_faults m c.root.0 js l σ) q
              ∙ sym (append_assoc v.done (fill_faults m c.root.0 js d σ) (details_faults m c.root.0 js ds (fill m.texts js d σ)))
              ∙ ap (λ τ. v.done ++ fill_faults m c.root.0 js d σ ++ details_faults m c.root.0 js ds τ) (sym es);
          puts = puts-within v.puts p (omega arith);
        }

    module _ (h : unified_count ≤ i) where
      end : drop i unified_details ≡ []
      end = drop_of_length-le unified_details (rw unified-count h)

      pub turns-slots : σ ≡ fill_details (model c).texts c.members.now unified_details σ₀
      unfolding fill_details
      turns-slots = sym (v.slots ∙ ap (λ l. fill_details (model c).texts c.members.now l σ) end)

      pub turns-puts : i ≤ unified_count → Puts unified_count (details_faults (model c) c.root.0 c.members.now unified_details σ₀) r₀ r
      unfolding details_faults
      turns-puts l = puts-more v.puts l (sym (v.faults ∙ ap (λ l. v.done ++ details_faults (model c) c.root.0 c.members.now l σ) end ∙ append-nil v.done))

-- ---- the whole cluster

module _ {σ : Slots} {js : List ℕ} {real integer : ℕ} (w : Sees σ js real integer (length js)) where
  pub stands-seen : {c : ClusterMembers} → c.members.now ≡ js → c.seen.real ≡ real → c.seen.integer ≡ integer → c.root.0 < connector_count (model c) → Stands σ c
  stands-seen ej er ei h = record { root = h; unseen = λ d e. rw ej (undeclared w d (rw (← er, ← ei) e)) }

  module _ {t : Bool} (et : t ≡ (eqb real 0 && eqb integer 0)) (e : t ≡ true) where
    nothing : (d : Detail) → declarations d σ js ≡ []
    nothing d = undeclared w d (nothing-shows real integer et e d)

    pub cluster-kept : (m : Model) → σ ≡ fill_details m.texts js unified_details σ
    cluster-kept m = sym (details-undeclared m js σ nothing unified_details)

    pub cluster-silent : (m : Model) (r : ℕ) {n : ℕ} {rep : Report} → Puts n (cluster_faults m r js σ) rep rep
    cluster-silent m r = rw (cluster-undeclared m js σ nothing r) puts-none

-- the details that are filled, and 6.7
pub cluster-all : (m : Model) (r : ℕ) (js : List ℕ) (σ : Slots) {σ' : Slots} {a b c : Report} → σ' ≡ fill_details m.texts js unified_details σ
    → Puts unified_count (details_faults m r js unified_details σ) a b → Puts 1 (display_faults m r js σ') b c → Puts most_cluster_faults (cluster_faults m r js σ) a c
unfolding cluster_faults
cluster-all m r js σ es p q = puts-within p (rw es at q) (omega arith)
