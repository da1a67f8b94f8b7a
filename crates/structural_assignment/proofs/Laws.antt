-- What rule 3 reports of one connector, from what was read of it and found of its id.
use mathlib.Core.Logic.{◌≢◌}
use Prim.Native.Nat.{ℕ, ◌≤◌, ◌*◌}
use native.Mathlib.Omega.{arith}
use mathlib.Core.Path.{◌≡◌, sym, ap, ◌∙◌}
use mathlib.Core.Bool.{Bool, true, false, not}
use lib.Dec.{ltb, eqb}
use borrow.Author.Tests.{eq-eqb, ne_eqb}
use Rattle.base.specs.Lists.{only}
use Rattle.oce_model.specs.Format.{most_connectors}
use Rattle.oce_model.specs.Model.{Model, inwards, is_in, connector, connector_count}
use Rattle.oce_model.proofs.Records.{inwards_is}
use Rattle.oce_model.specs.declared.ConnectorFront.{ConnectorFront}
use Rattle.oce_diag.specs.Diagnostics.{connector_subject, subject_of, error}
use Rattle.oce_diag.specs.Reporting.{Puts, Turns}
use Rattle.oce_diag.specs.declared.Diagnostic.{Diagnostic}
use Rattle.oce_diag.specs.declared.Subject.{Subject}
use Rattle.oce_diag.specs.declared.report.Report.{Report}
use Rattle.oce_diag.specs.declared.DiagCode.TheVariants.{SingleAssignment}
use Rattle.oce_diag.proofs.Reporting.{puts-none, puts-then, turns-end}
use Rattle.structural.specs.Degrees.{degree, external}
use Rattle.structural.specs.Structural.{assignment_faults, rule3}
use Rattle.image_records.specs.Records.{connector_read}
use Rattle.structural_assignment.specs.PerRecord.{undriven, degree_faults, most_assignment_faults}

-- ---- an input

module _ (d : ℕ) (outside : Bool) where
  pub undriven-none : d ≡ 0 → not outside ≡ undriven d outside
  unfolding undriven
  undriven-none e = rw (eq-eqb d 0 e)

  pub undriven-not : d ≢ 0 → eqb d 0 ≡ undriven d outside
  unfolding undriven
  undriven-not e = rw (ne_eqb d 0 e)

-- two tests, one after the other
pub degree-tests : (i d : ℕ) (subject : Subject) (outside : Bool) {t : Bool} {a b c : Report} {x y : Diagnostic}
    → t ≡ undriven d outside → x ≡ error SingleAssignment 3 1 subject i → y ≡ error SingleAssignment 3 2 subject d
    → Puts 1 (only t x) a b → Puts 1 (only (ltb 1 d) y) b c
    → Puts most_assignment_faults (degree_faults i subject d outside) a c
unfolding degree_faults
degree-tests i d subject outside et ex ey p q = rw (← et, ← ex, ← ey) (puts-then p q)

-- ---- a connector

module _ (m : Model) (i : ℕ) {c : ConnectorFront} (e : c ≡ connector_read (connector m i)) where
  dir-is : {t : Bool} → t ≡ inwards c.dir → t ≡ is_in (connector m i)
  unfolding connector_read
  dir-is h = h ∙ ap (λ (y : ConnectorFront). inwards y.dir) e ∙ inwards_is (connector m i)

  id-is : c.id.0 ≡ (connector m i).id
  unfolding connector_read
  id-is = ap (λ (y : ConnectorFront). y.id.0) e

  subject-is : connector_subject c.iri c.id ≡ subject_of (connector m i)
  unfolding connector_read subject_of
  subject-is = ap (λ (y : ConnectorFront). connector_subject y.iri y.id) e

  -- one that is an output
  pub not-assigned : {n : ℕ} {r : Report} {t : Bool} → t ≡ inwards c.dir → t ≡ false → Puts n (assignment_faults m i (connector m i)) r r
  unfolding assignment_faults
  not-assigned h f = rw (sym (dir-is h) ∙ f) puts-none

  -- and one that is an input
  pub assigned : {n : ℕ} {r r' : Report} {subject : Subject} {d : ℕ} {outside t : Bool} → t ≡ inwards c.dir → t ≡ true → subject ≡ connector_subject c.iri c.id
      → d ≡ degree m c.id.0 → outside ≡ external m c.id.0
      → Puts n (degree_faults i subject d outside) r r'
      → Puts n (assignment_faults m i (connector m i)) r r'
  unfolding assignment_faults degree_faults undriven
  assigned h q es ed eo p = rw (sym (dir-is h) ∙ q, ← (es ∙ subject-is), ← id-is, ← ed, ← eo) p

-- all of them
pub rule3-put : (m : Model) {r₀ r : Report} {i : ℕ}
    → Turns (λ i. assignment_faults m i (connector m i)) most_assignment_faults r₀ r i → i ≡ connector_count m → connector_count m ≤ most_connectors
    → Puts (most_assignment_faults * most_connectors) (rule3 m) r₀ r
unfolding rule3
rule3-put m v e l = turns-end v most_connectors (most_assignment_faults * most_connectors) e l (omega arith)
