-- What a report without errors says of the model. Rules 1 to 4: its connections form disjoint stars, each from an Out to Ins and boundary outputs of its type.
-- Rules 5 and 6: no range is crossed, and nothing that a cluster declares conflicts.
use Prim.Native.Nat.{ℕ, ◌≤◌, ◌<◌}
use mathlib.Core.Path.{◌≡◌, refl, sym, ◌∙◌}
use mathlib.Core.Bool.{Bool, true, false, cond, not, ◌&&◌, true≢false}
use mathlib.Core.List.{[], ◌∷◌, ◌++◌}
use lib.Dec.{eqb, ltb}
use borrow.Author.Tests.{eqb-true, ltb-false, not-false}
use Rattle.base.specs.Lists.{each, only}
use Rattle.oce_model.specs.Model.{Connection, BoundaryOutput, Model, block, block_count, boundary_output, boundary_output_count, connection, connection_count, connector, connector_count, is_connector, is_in}
use Rattle.oce_diag.specs.Diagnostics.{error, has_error, subject_of}
use Rattle.oce_diag.specs.declared.DiagCode.TheVariants.{CrossedBounds, DirectionMismatch, MalformedDocument, SingleAssignment, TypeMismatch}
use Rattle.oce_diag.specs.declared.Subject.TheVariants.{Nothing, Text}
use Rattle.structural.specs.Degrees.{degree, external}
use Rattle.structural.specs.Structural.{same_type, matches, assignment_faults, block_faults, connection_faults, connector_faults, in_range, output_faults, rule1, rule2, rule3, rule4}
use Rattle.crossed_bounds.specs.CrossedBounds.{crossed_faults, connector_crossed, rule5}
use Rattle.crossed_bounds.specs.Ranges.{crossed, range_of}
use Rattle.unify.specs.Clusters.{driven, is_root, sound}
use Rattle.unify.specs.Slots.{slot}
use Rattle.unify.specs.Details.{unified_details}
use Rattle.unify.specs.Unify.{cluster_faults, clusters_faults, details_faults, filled_slots, filled_to, propagated, propagated_faults, root_faults, rule6}
use Rattle.outcome.specs.Report.{report, rules_before6}
use Rattle.moved.proofs.NoError.{clean-append, clean-each, clean-only}

-- ---- rule 4

pub record Sound (m : Model) (k : Connection) : Type 0 where
  pub range : in_range m k ≡ true
  pub from_out : is_in (connector m k.from) ≡ false
  pub to_in : is_in (connector m k.to) ≡ true
  pub alike : same_type (connector m k.from) (connector m k.to) ≡ true

pub rule4-clean : (m : Model) → has_error (rule4 m) ≡ false → (i : ℕ) → i < connection_count m → Sound m (connection m i)
unfolding rule4 connection_faults
rule4-clean m h i l = arm (in_range m k) refl (clean-each (connection_count m) (λ i. connection_faults m i (connection m i)) h i l)
  where
    k : Connection
    k = connection m i

    arm : (b : Bool) → in_range m k ≡ b
        → has_error (cond (not b) (error MalformedDocument 4 1 Nothing i ∷ [])
        (only (is_in (connector m k.from)) (error DirectionMismatch 4 2 (subject_of (connector m k.from)) i)
        ++ only (not (is_in (connector m k.to))) (error DirectionMismatch 4 3 (subject_of (connector m k.to)) i)
        ++ only (not (same_type (connector m k.from) (connector m k.to))) (error TypeMismatch 4 4 (subject_of (connector m k.to)) i))) ≡ false
        → Sound m k
    arm true e g =
        let p = clean-append _ _ g in
        let q = clean-append _ _ p.0 in
        record {
          range = e;
          from_out = clean-only (is_in (connector m k.from)) DirectionMismatch 4 2 _ i q.0;
          to_in = not-false _ (clean-only (not (is_in (connector m k.to))) DirectionMismatch 4 3 _ i q.1);
          alike = not-false _ (clean-only (not (same_type (connector m k.from) (connector m k.to))) TypeMismatch 4 4 _ i p.1);
        }
    arm false e g = absurd (true≢false (clean-only true MalformedDocument 4 1 Nothing i g))

-- ---- all rules

pub record Stars (m : Model) : Type 0 where
  pub wires : (k : ℕ) → k < connection_count m → Sound m (connection m k)
  pub single : (i : ℕ) → i < connector_count m → is_in (connector m i) ≡ true → degree m i ≤ 1
  pub sources : (i : ℕ) → i < boundary_output_count m → sound m (boundary_output m i) ≡ true

-- what rules 5 and 6 then say of ranges and clusters
pub record Quiet (m : Model) : Type 0 where
  pub range : (i : ℕ) → i < connector_count m → crossed (range_of m.defaults (connector m i).attrs) ≡ false
  pub agreed : (r : ℕ) → r < connector_count m → is_root m r ≡ true → has_error (details_faults m r (r ∷ driven m r) unified_details (filled_to m r)) ≡ false
  pub root_range : (r : ℕ) → r < connector_count m → is_root m r ≡ true → crossed (range_of m.defaults (slot (filled_slots m) r)) ≡ false

rule1-id : (m : Model) → has_error (rule1 m) ≡ false → (i : ℕ) → i < connector_count m → (connector m i).id ≡ i
unfolding rule1 connector_faults
rule1-id m h i l =
    let p = clean-append (each (block_count m) (λ i. block_faults m i (block m i))) _ h in
    let q = clean-append _ _ (clean-each (connector_count m) (λ i. connector_faults m i (connector m i)) p.1 i l) in
    eqb-true _ i (not-false _ (clean-only (not (eqb (connector m i).id i)) MalformedDocument 1 4 _ i q.0))

rule2-sound : (m : Model) → has_error (rule2 m) ≡ false → (i : ℕ) → i < boundary_output_count m → sound m (boundary_output m i) ≡ true
unfolding rule2 output_faults sound
rule2-sound m h i l = arm (is_connector m o.source) refl (clean-each (boundary_output_count m) (λ i. output_faults m i (boundary_output m i)) h i l)
  where
    o : BoundaryOutput
    o = boundary_output m i

    arm : (b : Bool) → is_connector m o.source ≡ b
        → has_error (cond (not b) (error MalformedDocument 2 1 (Text o.iri) i ∷ [])
        (only (is_in (connector m o.source)) (error DirectionMismatch 2 2 (Text o.iri) i)
        ++ only (not (matches o (connector m o.source))) (error MalformedDocument 2 3 (Text o.iri) i))) ≡ false
        → (b && not (is_in (connector m o.source)) && matches o (connector m o.source)) ≡ true
    arm true e g =
        let p = clean-append _ _ g in
        rw (clean-only (is_in (connector m o.source)) DirectionMismatch 2 2 _ i p.0)
        (not-false _ (clean-only (not (matches o (connector m o.source))) MalformedDocument 2 3 _ i p.1))
    arm false e g = absurd (true≢false (clean-only true MalformedDocument 2 1 (Text o.iri) i g))

rule3-single : (m : Model) → has_error (rule3 m) ≡ false → (i : ℕ) → i < connector_count m → (connector m i).id ≡ i → is_in (connector m i) ≡ true → degree m i ≤ 1
unfolding rule3 assignment_faults
rule3-single m h i l e n =
    let c = connector m i in
    let x = degree m c.id in
    let g = rw n at (clean-each (connector_count m) (λ i. assignment_faults m i (connector m i)) h i l) in
    let p = clean-append (only (eqb x 0 && not (external m c.id)) (error SingleAssignment 3 1 (subject_of c) i)) (only (ltb 1 x) (error SingleAssignment 3 2 (subject_of c) x)) g in
    let q : degree m (connector m i).id ≤ 1 = ltb-false 1 x (clean-only (ltb 1 x) SingleAssignment 3 2 (subject_of c) x p.1) in
    rw e at q

rule5-range : (m : Model) → has_error (rule5 m) ≡ false → (i : ℕ) → i < connector_count m → crossed (range_of m.defaults (connector m i).attrs) ≡ false
unfolding rule5 connector_crossed crossed_faults
rule5-range m h i l =
    let p = clean-append _ _ (clean-append _ _ (clean-append _ _ h).0).0 in
    clean-only (crossed (range_of m.defaults (connector m i).attrs)) CrossedBounds 5 1 _ i (clean-each (connector_count m) (connector_crossed m) p.0 i l)

clusters-agreed : (m : Model) → has_error (clusters_faults m) ≡ false → (r : ℕ) → r < connector_count m → is_root m r ≡ true
    → has_error (details_faults m r (r ∷ driven m r) unified_details (filled_to m r)) ≡ false
unfolding clusters_faults root_faults cluster_faults
clusters-agreed m h r l e =
    let g = rw e at (clean-each (connector_count m) (λ r. root_faults m r (filled_to m r)) h r l) in
    (clean-append _ _ g).0

propagated-range : (m : Model) → has_error (propagated m) ≡ false → (r : ℕ) → r < connector_count m → is_root m r ≡ true → crossed (range_of m.defaults (slot (filled_slots m) r)) ≡ false
unfolding propagated propagated_faults
propagated-range m h r l e =
    let σ = filled_slots m in
    let g = clean-only (is_root m r && crossed (range_of m.defaults (slot σ r))) CrossedBounds 6 8 _ r (clean-each (connector_count m) (propagated_faults m σ) h r l) in
    rw e at g

-- where no rule before it found an error, rule 6 without one has asked 6.8
rule6-clean : (m : Model) (failed : Bool) → failed ≡ false → has_error (rule6 m failed) ≡ false → (has_error (clusters_faults m) ≡ false) × (has_error (propagated m) ≡ false)
unfolding rule6
rule6-clean m failed e h = arm (has_error (clusters_faults m)) refl (rw e at h)
  where
    arm : (b : Bool) → has_error (clusters_faults m) ≡ b → has_error (cond b (clusters_faults m) (clusters_faults m ++ propagated m)) ≡ false → (has_error (clusters_faults m) ≡ false) × (has_error (propagated m) ≡ false)
    arm true q g = absurd (true≢false (sym q ∙ g))
    arm false q g = clean-append (clusters_faults m) (propagated m) g

module _ (m : Model) (h : has_error (report m) ≡ false) where
  parts : (has_error (rules_before6 m) ≡ false) × (has_error (rule6 m (has_error (rules_before6 m))) ≡ false)
  unfolding report
  parts = clean-append (rules_before6 m) (rule6 m (has_error (rules_before6 m))) h

  sixth : (has_error (clusters_faults m) ≡ false) × (has_error (propagated m) ≡ false)
  sixth = rule6-clean m (has_error (rules_before6 m)) parts.0 parts.1

  first-five : has_error (rule1 m ++ rule2 m ++ rule3 m ++ rule4 m ++ rule5 m) ≡ false
  unfolding rules_before6
  first-five = parts.0

  first-four : has_error (rule1 m ++ rule2 m ++ rule3 m ++ rule4 m) ≡ false
  first-four = (clean-append _ (rule5 m) first-five).0

  first_three : has_error (rule1 m ++ rule2 m ++ rule3 m) ≡ false
  first_three = (clean-append _ (rule4 m) first-four).0

  first_two : has_error (rule1 m ++ rule2 m) ≡ false
  first_two = (clean-append _ (rule3 m) first_three).0

  pub stars : Stars m
  stars = record {
    wires = rule4-clean m (clean-append (rule1 m ++ rule2 m ++ rule3 m) (rule4 m) first-four).1;
    single = λ i l n. rule3-single m (clean-append (rule1 m ++ rule2 m) (rule3 m) first_three).1 i l (rule1-id m (clean-append _ (rule2 m) first_two).0 i l) n;
    sources = rule2-sound m (clean-append (rule1 m) (rule2 m) first_two).1;
  }

  pub quiet : Quiet m
  quiet = record {
    range = rule5-range m (clean-append (rule1 m ++ rule2 m ++ rule3 m ++ rule4 m) (rule5 m) first-five).1;
    agreed = clusters-agreed m sixth.0;
    root_range = propagated-range m sixth.1;
  }
