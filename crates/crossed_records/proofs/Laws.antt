-- What the functions over one record put, and rule 5 from its parts.
use Prim.Native.Nat.{ℕ, ◌+◌, ◌≤◌}
use native.Mathlib.Omega.{arith}
use mathlib.Core.Path.{◌≡◌, refl, ap, ◌∙◌}
use Rattle.base.specs.Lists.{each}
use Rattle.oce_model.specs.Format.{most_connectors, most_boundary_inputs, most_boundary_outputs}
use Rattle.oce_model.specs.declared.Attrs.{Attrs}
use Rattle.oce_model.specs.Model.{Model, connector, boundary_input, boundary_output, connector_count, boundary_input_count, boundary_output_count}
use Rattle.oce_model.specs.declared.ConnectorFront.{ConnectorFront}
use Rattle.oce_model.specs.declared.BoundaryOutputFront.{BoundaryOutputFront}
use Rattle.oce_diag.specs.Diagnostics.{connector_subject, subject_of}
use Rattle.oce_diag.specs.Reporting.{Puts}
use Rattle.oce_diag.specs.declared.report.Report.{Report}
use Rattle.oce_diag.specs.declared.Subject.{Subject}
use Rattle.oce_diag.specs.declared.Subject.TheVariants.{Text}
use Rattle.oce_diag.proofs.Reporting.{puts-then, puts-more}
use Rattle.image_records.specs.Records.{connector_read, output_read}
use Rattle.crossed_bounds.specs.CrossedBounds.{crossed_faults, connector_crossed, input_crossed, output_crossed, groups, groups_faults, rule5}
use Rattle.crossed_records.specs.Most.{most_crossed}

-- ---- one record

module _ (m : Model) (i : ℕ) {a : Attrs} {r₀ r : Report} where
  pub connector-puts : {u : Subject} {k : ConnectorFront} → Puts 1 (crossed_faults m 1 u i a) r₀ r → u ≡ connector_subject k.iri k.id → k ≡ connector_read (connector m i) → a ≡ (connector m i).attrs
      → Puts 1 (connector_crossed m i) r₀ r
  unfolding connector_crossed subject_of connector_read
  connector-puts {u} p e f g =
      let z : u ≡ subject_of (connector m i) = e ∙ ap (λ (k : ConnectorFront). connector_subject k.iri k.id) f in
      rw (← z, ← g) p

  pub input-puts : {t : ℕ} → Puts 1 (crossed_faults m 2 (Text t) i a) r₀ r → t ≡ (boundary_input m i).iri → a ≡ (boundary_input m i).attrs → Puts 1 (input_crossed m i) r₀ r
  unfolding input_crossed
  input-puts p e g = rw (← e, ← g) p

  pub output-puts : {o : BoundaryOutputFront} {t : ℕ} → Puts 1 (crossed_faults m 3 (Text t) i a) r₀ r → t ≡ o.iri → o ≡ output_read (boundary_output m i) → a ≡ (boundary_output m i).attrs → Puts 1 (output_crossed m i) r₀ r
  unfolding output_crossed output_read
  output-puts {o} {t} p h e g =
      let z : t ≡ (boundary_output m i).iri = h ∙ ap (λ (k : BoundaryOutputFront). k.iri) e in
      rw (← z, ← g) p

-- ---- the whole rule

pub rule5-puts : (m : Model) {r₀ r₁ r₂ r₃ r₄ : Report} {n : ℕ} → Puts most_connectors (each (connector_count m) (connector_crossed m)) r₀ r₁
    → Puts most_boundary_inputs (each (boundary_input_count m) (input_crossed m)) r₁ r₂ → Puts most_boundary_outputs (each (boundary_output_count m) (output_crossed m)) r₂ r₃
    → Puts n (groups_faults m (groups m)) r₃ r₄ → n ≤ most_connectors + most_boundary_inputs → Puts most_crossed (rule5 m) r₀ r₄
unfolding rule5
rule5-puts m p q s u h = puts-more (puts-then (puts-then (puts-then p q) s) u) (omega arith) refl
