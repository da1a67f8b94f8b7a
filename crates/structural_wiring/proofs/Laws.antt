-- What rules 2 and 4 report of one record, from what was read of it, and of all records.
use Prim.Native.Nat.{ℕ, ◌*◌, ◌<◌, ◌≤◌}
use native.Mathlib.Omega.{arith}
use mathlib.Core.Path.{◌≡◌, refl}
use mathlib.Core.Bool.{Bool, false, not, ◌&&◌}
use mathlib.Core.List.{[], ◌∷◌}
use lib.Dec.{eqb}
use borrow.Author.Tests.{lt-ltb, le-ltb}
use Rattle.base.specs.Lists.{only}
use Rattle.oce_model.specs.Format.{most_boundary_outputs, most_connections}
use Rattle.oce_model.specs.Model.{Model, inwards, kind_number, BoundaryOutput, Connection as ModelConnection, connector, connection, boundary_output, connector_count, connection_count, boundary_output_count}
use Rattle.oce_model.specs.declared.Attrs.{Attrs}
use Rattle.oce_model.specs.declared.BoundaryOutputFront.{BoundaryOutputFront}
use Rattle.oce_model.specs.declared.Connection.{Connection}
use Rattle.oce_model.specs.declared.ConnectorFront.{ConnectorFront}
use Rattle.oce_diag.specs.Diagnostics.{connector_subject, subject_of, error}
use Rattle.oce_diag.specs.Reporting.{Puts, Turns}
use Rattle.oce_diag.specs.declared.Diagnostic.{Diagnostic}
use Rattle.oce_diag.specs.declared.Subject.{Subject}
use Rattle.oce_diag.specs.declared.Subject.TheVariants.{Nothing, Text}
use Rattle.oce_diag.specs.declared.DiagCode.TheVariants.{MalformedDocument, DirectionMismatch, TypeMismatch}
use Rattle.oce_diag.specs.declared.report.Report.{Report}
use Rattle.oce_model.proofs.Records.{inwards_is}
use Rattle.oce_diag.proofs.Reporting.{puts-then, puts-more, turns-end}
use Rattle.image_records.specs.Records.{connector_read, connection_read, output_read}
use Rattle.structural.specs.Structural.{output_faults, rule2, in_range, connection_faults, rule4}
use Rattle.structural_wiring.specs.PerRecord.{most_output_faults, most_connection_faults}

-- ---- rule 2

module _ (m : Model) (k : BoundaryOutput) (i : ℕ) {n w : ℕ} {o : BoundaryOutputFront} (e : o ≡ output_read k) (ew : w ≡ o.iri) (en : n ≡ connector_count m) where
  -- a boundary output whose source is a connector
  pub output-inside : {a : Attrs} {c : ConnectorFront} {t h : Bool} {x y : Diagnostic} {r r₁ r₂ : Report}
      → o.source.0 < n → a ≡ k.attrs → c ≡ connector_read (connector m o.source.0) → kind_number c.value_type ≡ (connector m o.source.0).value_type → t ≡ inwards c.dir
      → x ≡ error DirectionMismatch 2 2 (Text w) i → y ≡ error MalformedDocument 2 3 (Text w) i
      → Puts 1 (only t x) r r₁ → h ≡ eqb a.kind (kind_number c.value_type) → Puts 1 (only (not h) y) r₁ r₂
      → Puts most_output_faults (output_faults m i k) r r₂
  unfolding output_faults output_read connector_read
  output-inside l ea ec ct et ex ey p eh q =
      let inside : k.source < connector_count m = rw (e, en) at l in
      rw (lt-ltb _ _ inside) (puts-then (rw (ex, ew, et, ec, inwards_is, e) at p) (rw (ey, ew, eh, ea, ct, e) at q))

  -- and one whose source is none
  pub output-outside : {x : Diagnostic} {r r' : Report}
      → n ≤ o.source.0 → x ≡ error MalformedDocument 2 1 (Text w) i → Puts 1 (x ∷ []) r r' → Puts most_output_faults (output_faults m i k) r r'
  unfolding output_faults output_read
  output-outside l ex p =
      let outside : connector_count m ≤ k.source = rw (e, en) at l in
      rw (le-ltb _ _ outside) (puts-more (rw (ex, ew, e) at p) (omega arith) refl)

-- all of them
pub rule2-put : (m : Model) {i n : ℕ} {r r' : Report}
    → Turns (λ i. output_faults m i (boundary_output m i)) most_output_faults r r' i → i ≡ n → n ≡ boundary_output_count m → n ≤ most_boundary_outputs
    → Puts (most_output_faults * most_boundary_outputs) (rule2 m) r r'
unfolding rule2
rule2-put m {n = n} v e en h = rw (← en) (turns-end v {m = n} most_boundary_outputs (most_output_faults * most_boundary_outputs) e h (omega arith))

-- ---- rule 4

module _ (m : Model) (k : ModelConnection) (i : ℕ) {n : ℕ} {c : Connection} (e : c ≡ connection_read k) (en : n ≡ connector_count m) where
  -- a connection whose ends are connectors
  pub connection-inside : {a b : ConnectorFront} {from to : Subject} {t u same : Bool} {x y z : Diagnostic} {r r₁ r₂ r₃ : Report}
      → c.from.0 < n → c.to.0 < n → a ≡ connector_read (connector m c.from.0) → b ≡ connector_read (connector m c.to.0)
      → kind_number a.value_type ≡ (connector m c.from.0).value_type → kind_number b.value_type ≡ (connector m c.to.0).value_type
      → t ≡ inwards a.dir → u ≡ inwards b.dir → from ≡ connector_subject a.iri a.id → to ≡ connector_subject b.iri b.id → same ≡ (eqb (kind_number a.value_type) (kind_number b.value_type) && eqb a.class b.class)
      → x ≡ error DirectionMismatch 4 2 from i → y ≡ error DirectionMismatch 4 3 to i → z ≡ error TypeMismatch 4 4 to i
      → Puts 1 (only t x) r r₁ → Puts 1 (only (not u) y) r₁ r₂ → Puts 1 (only (not same) z) r₂ r₃
      → Puts most_connection_faults (connection_faults m i k) r r₃
  unfolding connection_faults in_range connection_read connector_read subject_of
  connection-inside l l' ea eb ta tb ei eo ef et es ex ey ez p q w =
      let first : k.from < connector_count m = rw (e, en) at l in
      let second : k.to < connector_count m = rw (e, en) at l' in
      rw (lt-ltb _ _ first, lt-ltb _ _ second)
      (puts-then (puts-then (rw (ex, ei, ef, ea, inwards_is, e) at p) (rw (ey, eo, et, eb, inwards_is, e) at q)) (rw (ez, es, et, ta, tb, ea, eb, e) at w))

  outside : {x : Diagnostic} {r r' : Report}
      → in_range m k ≡ false → x ≡ error MalformedDocument 4 1 Nothing i → Puts 1 (x ∷ []) r r' → Puts most_connection_faults (connection_faults m i k) r r'
  unfolding connection_faults
  outside q ex p = rw q (puts-more (rw ex at p) (omega arith) refl)

  -- one whose `from` is none, and one whose `to` is none
  pub from-outside : {x : Diagnostic} {r r' : Report}
      → n ≤ c.from.0 → x ≡ error MalformedDocument 4 1 Nothing i → Puts 1 (x ∷ []) r r' → Puts most_connection_faults (connection_faults m i k) r r'
  unfolding in_range connection_read
  from-outside l ex p =
      let first : connector_count m ≤ k.from = rw (e, en) at l in
      outside (rw (le-ltb _ _ first) refl) ex p

  pub to-outside : {x : Diagnostic} {r r' : Report}
      → c.from.0 < n → n ≤ c.to.0 → x ≡ error MalformedDocument 4 1 Nothing i → Puts 1 (x ∷ []) r r' → Puts most_connection_faults (connection_faults m i k) r r'
  unfolding in_range connection_read
  to-outside l l' ex p =
      let first : k.from < connector_count m = rw (e, en) at l in
      let second : connector_count m ≤ k.to = rw (e, en) at l' in
      outside (rw (lt-ltb _ _ first, le-ltb _ _ second) refl) ex p

-- all of them
pub rule4-put : (m : Model) {i n : ℕ} {r r' : Report}
    → Turns (λ i. connection_faults m i (connection m i)) most_connection_faults r r' i → i ≡ n → n ≡ connection_count m → n ≤ most_connections
    → Puts (most_connection_faults * most_connections) (rule4 m) r r'
unfolding rule4
rule4-put m {n = n} v e en h = rw (← en) (turns-end v {m = n} most_connections (most_connection_faults * most_connections) e h (omega arith))
