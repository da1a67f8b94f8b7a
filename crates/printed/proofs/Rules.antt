-- The numbers of every diagnostic of an accepted image have room in its bytes, rule by rule.
use Prim.Native.Nat.{ℕ, ◌+◌, ◌-◌, ◌*◌, ◌<◌, ◌≤◌}
use native.Mathlib.Omega.{arith}
use mathlib.Core.Path.{◌≡◌, refl}
use mathlib.Core.Bool.{Bool, true, false, cond, not, ◌&&◌, ◌||◌}
use mathlib.Core.List.Memᴰ
use mathlib.Core.List.{List, [], ◌∷◌}
use Rattle.std.specs.Prelude.{None}
use lib.ListN.{length, get_or}
use lib.Dec.{eqb, ltb}
use Rattle.base.specs.Lists.{only, any, tally}
use Rattle.base.proofs.Lists.{length-each, length-tab, tally-le}
use Rattle.numbers.specs.Bytes.{word_range, byte, byte_range}
use Rattle.oce_model.specs.Format.{no_text}
use Rattle.oce_model.specs.declared.Attrs.{Attrs}
use Rattle.oce_model.specs.Model.{Model, model_of, block, connector, connection, boundary_input, boundary_output, block_count, connector_count, connection_count, boundary_input_count, boundary_output_count, is_block, is_connector, is_in}
use Rattle.oce_model.specs.Refusals.{refusal}
use Rattle.oce_diag.specs.Diagnostics.{connector_id, block_id, connector_subject, subject_of, block_subject, block_subject_of, has_error}
use Rattle.oce_diag.specs.Encoding.{subject_number}
use Rattle.oce_diag.specs.declared.Severity.TheVariants.{Error, Warning}
use Rattle.oce_diag.specs.declared.DiagCode.TheVariants.{MalformedDocument, DirectionMismatch, SingleAssignment, TypeMismatch, CrossedBounds, DisplayUnitDivergence}
use Rattle.oce_diag.specs.declared.Subject.{Subject}
use Rattle.oce_diag.specs.declared.Subject.TheVariants.{Nothing, Text, Connector, Block}
use Rattle.structural.specs.Degrees.{degree, external}
use Rattle.structural.specs.Structural.{port_faults, block_faults, connector_faults, matches, output_faults, assignment_faults, in_range, same_type, connection_faults, rule1, rule2, rule3, rule4}
use Rattle.crossed_bounds.specs.Ranges.{range_of, crossed, combined}
use Rattle.crossed_bounds.specs.Groups.{Group, members}
use Rattle.crossed_bounds.specs.CrossedBounds.{crossed_faults, connector_crossed, input_crossed, output_crossed, connector_members, input_members, member_iri, member_external, member_key, member_ranges, joins, groups, group_faults, groups_faults, rule5}
use Rattle.unify.specs.Details.{detail_number, unified_details}
use Rattle.unify.specs.Slots.{Slots, slot}
use Rattle.unify.specs.Clusters.{driven, is_root}
use Rattle.unify.specs.Unify.{declarations, conflict, conflict_code, fill, fill_faults, display_faults, details_faults, fill_details, cluster_faults, root_faults, filled_to, filled_slots, clusters_faults, propagated_faults, propagated, rule6}
use Rattle.unify.specs.declared.Detail.{Detail}
use Rattle.unify.specs.declared.Detail.TheVariants.{DisplayUnit}
use Rattle.outcome.specs.Report.{report, rules_before6}
use Rattle.outcome.specs.Answer.{report_of}
use Rattle.oce_diag.specs.Decoded.{AllFitting}
use Rattle.printed.specs.Bounded.{Bounded}
use Rattle.printed.proofs.Lists.{fits, all_none, all_one, all-only, all_both, all-cond, all-each}
use Rattle.printed.proofs.Model.{bounded}
use Rattle.printed.proofs.Groups.{AtMost, grouped}

module _ (m : Model) (b : Bounded m) where
  -- ---- subjects
  of-connector : (i : ℕ) → subject_number (subject_of (connector m i)) < word_range
  unfolding subject_of connector_subject
  of-connector i = arm (eqb (connector m i).iri no_text)
    where
      arm : (t : Bool) → subject_number (cond t (Connector (connector_id (connector m i).id)) (Text (connector m i).iri)) < word_range
      arm true = b.connector_id i
      arm false = b.connector_iri i

  of-block : (i : ℕ) → subject_number (block_subject_of (block m i)) < word_range
  unfolding block_subject_of block_subject
  of-block i = arm (eqb (block m i).instance_iri no_text)
    where
      arm : (t : Bool) → subject_number (cond t (Block (block_id (block m i).id)) (Text (block m i).instance_iri)) < word_range
      arm true = b.block_id i
      arm false = b.instance i

  few-connectors : connector_count m < word_range
  few-connectors = omega (arith, b.members)

  -- ---- rule 1
  ports-fit : (i detail : ℕ) (ports : List ℕ) → length ports ≤ word_range → AllFitting (port_faults m (block m i) detail ports)
  unfolding port_faults
  ports-fit i detail ports h =
      all-each (length ports) _ (λ p l.
      all-only (not (is_connector m (get_or ports p 0))) (fits Error MalformedDocument 1 detail (block_subject_of (block m i)) p (of-block i) (omega arith)))

  block-fits : (i : ℕ) → i < word_range → AllFitting (block_faults m i (block m i))
  unfolding block_faults
  block-fits i l =
      all_both (all_both
      (all-only (not (eqb (block m i).id i)) (fits Error MalformedDocument 1 1 (block_subject_of (block m i)) i (of-block i) l))
      (ports-fit i 2 (block m i).inputs (b.inputs i)))
      (ports-fit i 3 (block m i).outputs (b.outputs i))

  connector-fits : (i : ℕ) → i < word_range → AllFitting (connector_faults m i (connector m i))
  unfolding connector_faults
  connector-fits i l =
      all_both
      (all-only (not (eqb (connector m i).id i)) (fits Error MalformedDocument 1 4 (subject_of (connector m i)) i (of-connector i) l))
      (all-only (not (is_block m (connector m i).block)) (fits Error MalformedDocument 1 5 (subject_of (connector m i)) i (of-connector i) l))

  rule1-fits : AllFitting (rule1 m)
  unfolding rule1
  rule1-fits =
      let n = few-connectors in
      let k = b.blocks in
      all_both
      (all-each (block_count m) _ (λ i l. block-fits i (omega arith)))
      (all-each (connector_count m) _ (λ i l. connector-fits i (omega arith)))

  -- ---- rule 2
  output-fits : (i : ℕ) → i < word_range → AllFitting (output_faults m i (boundary_output m i))
  unfolding output_faults
  output-fits i l =
      let o = boundary_output m i in
      let c = connector m o.source in
      all-cond (not (is_connector m o.source))
      (all_one (fits Error MalformedDocument 2 1 (Text o.iri) i (b.output_iri i) l))
      (all_both
      (all-only (is_in c) (fits Error DirectionMismatch 2 2 (Text o.iri) i (b.output_iri i) l))
      (all-only (not (matches o c)) (fits Error MalformedDocument 2 3 (Text o.iri) i (b.output_iri i) l)))

  rule2-fits : AllFitting (rule2 m)
  unfolding rule2
  rule2-fits = let n = b.boundary_outputs in all-each (boundary_output_count m) _ (λ i l. output-fits i (omega arith))

  -- ---- rule 3
  degree-small : (i : ℕ) → degree m i < word_range
  unfolding degree
  degree-small i = arm (is_connector m i)
    where
      arm : (t : Bool) → cond t (tally (connection_count m) (λ k. eqb (connection m k).to i)) 0 < word_range
      arm true = omega (arith, tally-le (connection_count m) (λ k. eqb (connection m k).to i), b.connections)
      arm false = omega arith

  assignment-fits : (i : ℕ) → i < word_range → AllFitting (assignment_faults m i (connector m i))
  unfolding assignment_faults
  assignment-fits i l =
      let c = connector m i in
      let d = degree m c.id in
      all-cond (is_in c)
      (all_both
      (all-only (eqb d 0 && not (external m c.id)) (fits Error SingleAssignment 3 1 (subject_of c) i (of-connector i) l))
      (all-only (ltb 1 d) (fits Error SingleAssignment 3 2 (subject_of c) d (of-connector i) (degree-small c.id))))
      all_none

  rule3-fits : AllFitting (rule3 m)
  unfolding rule3
  rule3-fits = let n = few-connectors in all-each (connector_count m) _ (λ i l. assignment-fits i (omega arith))

  -- ---- rule 4
  connection-fits : (i : ℕ) → i < word_range → AllFitting (connection_faults m i (connection m i))
  unfolding connection_faults
  connection-fits i l =
      let k = connection m i in
      let x = connector m k.from in
      let y = connector m k.to in
      all-cond (not (in_range m k))
      (all_one (fits Error MalformedDocument 4 1 Nothing i (omega arith) l))
      (all_both (all_both
      (all-only (is_in x) (fits Error DirectionMismatch 4 2 (subject_of x) i (of-connector k.from) l))
      (all-only (not (is_in y)) (fits Error DirectionMismatch 4 3 (subject_of y) i (of-connector k.to) l)))
      (all-only (not (same_type x y)) (fits Error TypeMismatch 4 4 (subject_of y) i (of-connector k.to) l)))

  rule4-fits : AllFitting (rule4 m)
  unfolding rule4
  rule4-fits = let n = b.connections in all-each (connection_count m) _ (λ i l. connection-fits i (omega arith))

  -- ---- rule 5
  crossed-fits : (detail : ℕ) (x : Subject) (i : ℕ) (a : Attrs) → subject_number x < word_range → i < word_range → AllFitting (crossed_faults m detail x i a)
  unfolding crossed_faults
  crossed-fits detail x i a n l = all-only (crossed (range_of m.defaults a)) (fits Error CrossedBounds 5 detail x i n l)

  iri-small : (x : ℕ) → member_iri m x < word_range
  unfolding member_iri
  iri-small x = arm (is_connector m x)
    where
      arm : (t : Bool) → cond t (connector m x).iri (boundary_input m (x - connector_count m)).iri < word_range
      arm true = b.connector_iri x
      arm false = b.input_iri (x - connector_count m)

  group-fits : (g : Group) → length (members g) < word_range → AllFitting (group_faults m g)
  unfolding group_faults
  group-fits g l =
      let n = length (members g) in
      all-only (any (member_external m) (members g) && ltb 1 n && crossed (combined (member_ranges m g)))
      (fits Error CrossedBounds 5 4 (Text (member_iri m g.first)) n (iri-small g.first) l)

  groups-fit : (gs : List Group) {k : ℕ} → k < word_range → AtMost k gs → AllFitting (groups_faults m gs)
  unfolding groups_faults
  groups-fit [] l f = all_none
  groups-fit (g ∷ gs) l f =
      let n = f.each g (Memᴰ.head refl) in
      all_both (group-fits g (omega arith)) (groups-fit gs l (record { each = λ x p. f.each x (Memᴰ.tail p) }))

  one : (t : Bool) (i : ℕ) → length (only t i) ≤ 1
  one true i = omega arith
  one false i = omega arith

  combined-fits : AllFitting (groups_faults m (groups m))
  unfolding groups
  combined-fits =
      let xs = connector_members m in
      let ys = input_members m in
      let p : length xs ≤ 1 * connector_count m = length-each (connector_count m) 1 (λ i. only (joins (connector m i)) i) (λ i l. one (joins (connector m i)) i) in
      let q : length ys ≡ boundary_input_count m = length-tab (boundary_input_count m) (λ i. connector_count m + i) in
      let r = b.members in
      let few : length xs + length ys < word_range = omega arith in
      groups-fit _ few (grouped (member_key m) xs ys)

  rule5-fits : AllFitting (rule5 m)
  unfolding rule5 connector_crossed input_crossed output_crossed
  rule5-fits =
      let n = b.members in
      let k = b.boundary_outputs in
      all_both (all_both (all_both
      (all-each (connector_count m) _ (λ i l. crossed-fits 1 (subject_of (connector m i)) i (connector m i).attrs (of-connector i) (omega arith)))
      (all-each (boundary_input_count m) _ (λ i l. crossed-fits 2 (Text (boundary_input m i).iri) i (boundary_input m i).attrs (b.input_iri i) (omega arith))))
      (all-each (boundary_output_count m) _ (λ i l. crossed-fits 3 (Text (boundary_output m i).iri) i (boundary_output m i).attrs (b.output_iri i) (omega arith))))
      combined-fits

  -- ---- rule 6
  module _ (r : ℕ) (js : List ℕ) (l : r < word_range) where
    fill-fits : (d : Detail) (σ : Slots) → AllFitting (fill_faults m r js d σ)
    unfolding fill_faults
    fill-fits d σ = all-only (conflict m.texts d (declarations d σ js)) (fits Error (conflict_code d) 6 (detail_number d) (subject_of (connector m r)) r (of-connector r) l)

    display-fits : (σ : Slots) → AllFitting (display_faults m r js σ)
    unfolding display_faults
    display-fits σ =
        all-only (conflict m.texts DisplayUnit (declarations DisplayUnit σ js)) (fits Warning DisplayUnitDivergence 6 (detail_number DisplayUnit) (subject_of (connector m r)) r (of-connector r) l)

    details-fit : (ds : List Detail) (σ : Slots) → AllFitting (details_faults m r js ds σ)
    unfolding details_faults
    details-fit [] σ = all_none
    details-fit (d ∷ ds) σ = all_both (fill-fits d σ) (details-fit ds (fill m.texts js d σ))

    cluster-fits : (σ : Slots) → AllFitting (cluster_faults m r js σ)
    unfolding cluster_faults
    cluster-fits σ = all_both (details-fit unified_details σ) (display-fits (fill_details m.texts js unified_details σ))

  root-fits : (r : ℕ) (σ : Slots) → r < word_range → AllFitting (root_faults m r σ)
  unfolding root_faults
  root-fits r σ l = all-cond (is_root m r) (cluster-fits r (r ∷ driven m r) l σ) all_none

  clusters-fit : AllFitting (clusters_faults m)
  unfolding clusters_faults
  clusters-fit = let n = few-connectors in all-each (connector_count m) (λ r. root_faults m r (filled_to m r)) (λ r l. root-fits r (filled_to m r) (omega arith))

  tested-fits : (σ : Slots) (r : ℕ) → r < word_range → AllFitting (propagated_faults m σ r)
  unfolding propagated_faults
  tested-fits σ r l = all-only (is_root m r && crossed (range_of m.defaults (slot σ r))) (fits Error CrossedBounds 6 8 (subject_of (connector m r)) r (of-connector r) l)

  propagated-fits : AllFitting (propagated m)
  unfolding propagated
  propagated-fits = let n = few-connectors in all-each (connector_count m) (propagated_faults m (filled_slots m)) (λ r l. tested-fits (filled_slots m) r (omega arith))

  rule6-fits : (failed : Bool) → AllFitting (rule6 m failed)
  unfolding rule6
  rule6-fits failed = all-cond (failed || has_error (clusters_faults m)) clusters-fit (all_both clusters-fit propagated-fits)

  -- ---- all of them
  before-fit : AllFitting (rules_before6 m)
  unfolding rules_before6
  before-fit = all_both (all_both (all_both (all_both rule1-fits rule2-fits) rule3-fits) rule4-fits) rule5-fits

  report-fits : AllFitting (report m)
  unfolding report
  report-fits = all_both before-fit (rule6-fits (has_error (rules_before6 m)))

-- the report of an accepted image
pub report_of-fits : (s : List ℕ) → ((i : ℕ) → byte s i < byte_range) → refusal s ≡ None → AllFitting (report_of s)
unfolding report_of
report_of-fits s b h = report-fits (model_of s) (bounded s b h)
