-- What rule 1 reports of one record, from what was read of it, and of all records.
use Prim.Native.Nat.{ℕ, ◌*◌, ◌≤◌}
use native.Mathlib.Omega.{arith}
use mathlib.Core.Path.{◌≡◌, refl}
use mathlib.Core.Bool.{not}
use Rattle.std.proofs.lemmas.Bool.Decides.{nat_tests}
use mathlib.Core.List.{List}
use lib.Dec.{eqb, ltb, leb}
use lib.ListN.{length, get_or}
use Rattle.base.specs.Lists.{each, only}
use Rattle.oce_model.specs.Format.{most_ports, most_blocks, most_connectors}
use Rattle.oce_model.specs.Model.{Model, Block as ModelBlock, Connector, block, connector, block_count, connector_count}
use Rattle.oce_model.specs.declared.ConnectorFront.{ConnectorFront}
use Rattle.oce_diag.specs.Diagnostics.{connector_subject, subject_of, block_subject, block_subject_of, error}
use Rattle.oce_diag.specs.Reporting.{Puts, Turns}
use Rattle.oce_diag.specs.declared.Diagnostic.{Diagnostic}
use Rattle.oce_diag.specs.declared.Subject.{Subject}
use Rattle.oce_diag.specs.declared.DiagCode.TheVariants.{MalformedDocument}
use Rattle.oce_diag.specs.declared.report.Report.{Report}
use Rattle.oce_diag.proofs.Reporting.{puts-then, puts-within, turns-end}
use Rattle.image_records.specs.Records.{connector_read}
use Rattle.image_records.specs.Images.{block_value}
use Rattle.image_records.specs.declared.blocks.Block.{Block}
use Rattle.structural.specs.Structural.{port_faults, block_faults, connector_faults, rule1}
use Rattle.structural_arena_ids.specs.PerRecord.{port_fault, most_block_faults, most_connector_faults, most_arena_faults}

-- n is at most i, in place of: i isn't below n
beyond : (n i : ℕ) → leb n i ≡ not (ltb i n)
beyond n i = grind (arith, nat_tests)

-- a port
pub port-put : (n detail j : ℕ) (ids : List ℕ) (subject : Subject) {id : ℕ} {x : Diagnostic} {r r' : Report}
    → Puts 1 (only (leb n id) x) r r' → id ≡ get_or ids j 0 → x ≡ error MalformedDocument 1 detail subject j
    → Puts 1 (port_fault n subject detail ids j) r r'
unfolding port_fault
port-put n detail j ids subject {id} p e f = rw (← e, ← f, ← beyond n id) p

-- the ports of a block, one by one
pub ports-each : (m : Model) (b : ModelBlock) (detail : ℕ) (ids : List ℕ)
    → port_faults m b detail ids ≡ each (length ids) (port_fault (connector_count m) (block_subject_of b) detail ids)
unfolding port_faults port_fault
ports-each m b detail ids = refl

-- a block
pub block-put : (m : Model) (k : ModelBlock) (i : ℕ) {n : ℕ} {b : Block} {subject : Subject} {x : Diagnostic} {r r₁ r₂ r₃ : Report}
    → b ≡ block_value k → n ≡ connector_count m → subject ≡ block_subject b.instance b.id → x ≡ error MalformedDocument 1 1 subject i
    → Puts 1 (only (not (eqb b.id.0 i)) x) r r₁
    → Puts most_ports (each (length b.inputs) (port_fault n subject 2 b.inputs)) r₁ r₂
    → Puts most_ports (each (length b.outputs) (port_fault n subject 3 b.outputs)) r₂ r₃
    → Puts most_block_faults (block_faults m i k) r r₃
unfolding block_faults block_value block_subject_of
block-put m k i e en es ex p q t =
    let f = rw e at es in
    rw (ports-each m k 2 k.inputs, ports-each m k 3 k.outputs)
    (puts-within (puts-then (rw (ex, f, e) at p) (rw (en, f, e) at q)) (rw (en, f, e) at t) (omega arith))

-- a connector
pub connector-put : (m : Model) (k : Connector) (i : ℕ) {n : ℕ} {c : ConnectorFront} {subject : Subject} {x y : Diagnostic} {r r₁ r₂ : Report}
    → c ≡ connector_read k → n ≡ block_count m → subject ≡ connector_subject c.iri c.id
    → x ≡ error MalformedDocument 1 4 subject i → y ≡ error MalformedDocument 1 5 subject i
    → Puts 1 (only (not (eqb c.id.0 i)) x) r r₁ → Puts 1 (only (leb n c.block.0) y) r₁ r₂
    → Puts most_connector_faults (connector_faults m i k) r r₂
unfolding connector_faults connector_read subject_of
connector-put m k i {n} {c} e en es ex ey p q =
    let f = rw e at es in
    puts-then (rw (ex, f, e) at p) (rw (beyond n c.block.0, ey, f, e, en) at q)

-- all blocks, then all connectors
pub rule1-put : (m : Model) {i j b c : ℕ} {r r₁ r₂ : Report}
    → Turns (λ i. block_faults m i (block m i)) most_block_faults r r₁ i → i ≡ b → b ≡ block_count m → b ≤ most_blocks
    → Turns (λ i. connector_faults m i (connector m i)) most_connector_faults r₁ r₂ j → j ≡ c → c ≡ connector_count m → c ≤ most_connectors
    → Puts most_arena_faults (rule1 m) r r₂
unfolding rule1
rule1-put m {b = b} {c} v e eb hb w f ec hc =
    rw (← eb, ← ec)
    (puts-then (turns-end v {m = b} most_blocks (most_block_faults * most_blocks) e hb (omega arith)) (turns-end w {m = c} most_connectors (most_connector_faults * most_connectors) f hc (omega arith)))
