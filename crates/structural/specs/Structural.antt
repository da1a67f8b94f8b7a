-- Rules 1 to 4, FORMAT 9 to 12. Each is the list of its diagnostics, in order.
use Rattle.std.specs.Prelude.{ℕ, Bool, cond, not, ◌&&◌, List, [], ◌∷◌, ◌++◌, length, get_or, eqb, ltb}
use Rattle.base.specs.Lists.{each, only}
use Rattle.oce_model.specs.Model.{Block, Connector, Connection, BoundaryOutput, Model, block, connector, connection, boundary_output, block_count, connector_count, connection_count, boundary_output_count, is_block, is_connector, is_in}
use Rattle.oce_diag.specs.Diagnostics.{subject_of, block_subject_of, error}
use Rattle.oce_diag.specs.declared.Diagnostic.{Diagnostic}
use Rattle.oce_diag.specs.declared.Subject.TheVariants.{Nothing, Text}
use Rattle.oce_diag.specs.declared.DiagCode.TheVariants.{MalformedDocument, DirectionMismatch, SingleAssignment, TypeMismatch}
use Rattle.structural.specs.Degrees.{degree, external}

-- a number is out of range: it is no connector's. FORMAT 3
abbrev pub out_of_range : Model → ℕ → Bool
out_of_range m i = not (is_connector m i)

-- ---- Rule 1, ids, `check_arena_ids`. FORMAT 9

-- 1.2 and 1.3, `check_block_port_ids`: the connector of a port is out of range; the place is the port's index
unfoldable pub port_faults : Model → Block → ℕ → List ℕ → List Diagnostic
port_faults m b detail ports =
    each (length ports) (λ p. only (out_of_range m (get_or ports p 0)) (error MalformedDocument 1 detail (block_subject_of b) p))

-- block i: 1.1 its id isn't its number; 1.2 its input ports; 1.3 its output ports
unfoldable pub block_faults : Model → ℕ → Block → List Diagnostic
block_faults m i b =
    only (not (eqb b.id i)) (error MalformedDocument 1 1 (block_subject_of b) i)
    ++ port_faults m b 2 b.inputs ++ port_faults m b 3 b.outputs

-- connector i: 1.4 its id isn't its number; 1.5 its block is out of range
unfoldable pub connector_faults : Model → ℕ → Connector → List Diagnostic
connector_faults m i c =
    only (not (eqb c.id i)) (error MalformedDocument 1 4 (subject_of c) i)
    ++ only (not (is_block m c.block)) (error MalformedDocument 1 5 (subject_of c) i)

-- every block, then every connector
unfoldable pub rule1 : Model → List Diagnostic
rule1 m =
    each (block_count m) (λ i. block_faults m i (block m i))
    ++ each (connector_count m) (λ i. connector_faults m i (connector m i))

-- ---- Rule 2, boundary outputs, `check_boundary_outputs`. FORMAT 10

-- `Attrs::matches`: a boundary output's attribute kind is a connector's type; of an Enum the class isn't asked
abbrev pub matches : BoundaryOutput → Connector → Bool
matches o c = eqb o.attrs.kind c.value_type

-- boundary output i: 2.1 its source is out of range, and nothing more of it; otherwise 2.2 the source is not an Out, 2.3 its kind isn't the source's type
unfoldable pub output_faults : Model → ℕ → BoundaryOutput → List Diagnostic
output_faults m i o =
    let c = connector m o.source in
    cond (out_of_range m o.source)
    (error MalformedDocument 2 1 (Text o.iri) i ∷ [])
    (only (is_in c) (error DirectionMismatch 2 2 (Text o.iri) i)
    ++ only (not (matches o c)) (error MalformedDocument 2 3 (Text o.iri) i))

-- every boundary output
unfoldable pub rule2 : Model → List Diagnostic
rule2 m = each (boundary_output_count m) (λ i. output_faults m i (boundary_output m i))

-- ---- Rule 3, single assignment, `check_single_assignment` (Standard 231, §7.10 and §9.1.5). FORMAT 11

-- connector i, if it is an In, by its own id: 3.1 its in-degree is 0 and its id is not external; 3.2 its in-degree is above 1, and that is the place
unfoldable pub assignment_faults : Model → ℕ → Connector → List Diagnostic
assignment_faults m i c =
    let d = degree m c.id in
    cond (is_in c)
    (only (eqb d 0 && not (external m c.id)) (error SingleAssignment 3 1 (subject_of c) i)
    ++ only (ltb 1 d) (error SingleAssignment 3 2 (subject_of c) d))
    []

-- every connector
unfoldable pub rule3 : Model → List Diagnostic
rule3 m = each (connector_count m) (λ i. assignment_faults m i (connector m i))

-- ---- Rule 4, connections, `check_connections` (Standard 231, §9.1.6; §7.10 forbids implicit coercion). FORMAT 12

-- neither end of a connection is out of range
unfoldable pub in_range : Model → Connection → Bool
in_range m k = is_connector m k.from && is_connector m k.to

-- two types are equal, the enum class included. FORMAT 3
abbrev pub same_type : Connector → Connector → Bool
same_type a b = eqb a.value_type b.value_type && eqb a.enum_class b.enum_class

-- connection i: 4.1 an end is out of range, and nothing more of it; otherwise 4.2 `from` is not an Out, 4.3 `to` is not an In, 4.4 the types differ
unfoldable pub connection_faults : Model → ℕ → Connection → List Diagnostic
connection_faults m i k =
    let a = connector m k.from in
    let b = connector m k.to in
    cond (not (in_range m k))
    (error MalformedDocument 4 1 Nothing i ∷ [])
    (only (is_in a) (error DirectionMismatch 4 2 (subject_of a) i)
    ++ only (not (is_in b)) (error DirectionMismatch 4 3 (subject_of b) i)
    ++ only (not (same_type a b)) (error TypeMismatch 4 4 (subject_of b) i))

-- every connection
unfoldable pub rule4 : Model → List Diagnostic
rule4 m = each (connection_count m) (λ i. connection_faults m i (connection m i))
