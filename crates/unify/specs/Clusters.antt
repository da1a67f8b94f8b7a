-- The clusters of rule 6, a root and what it drives: FORMAT 15.
use Rattle.std.specs.Prelude.{ℕ, ◌+◌, Bool, not, ◌&&◌, List, ◌++◌, length, eqb, ltb}
use Rattle.base.specs.Lists.{each, only}
use Rattle.oce_model.specs.Model.{Connection, BoundaryOutput, Model, connector, connection, boundary_output, connector_count, connection_count, boundary_output_count, is_connector, is_in}
use Rattle.structural.specs.Degrees.{degree}
use Rattle.structural.specs.Structural.{in_range, matches}

-- A connection that is in range, and whose `to` has in-degree 1.
unfoldable pub drives : Model → Connection → Bool
drives m k = in_range m k && eqb (degree m k.to) 1

-- A boundary output in which rule 2 finds no fault.
unfoldable pub sound : Model → BoundaryOutput → Bool
sound m o =
    let c = connector m o.source in
    is_connector m o.source && not (is_in c) && matches o c

-- The slot that a connection adds to root r's cluster, and the one that boundary output i adds, if they do.
unfoldable pub target : Model → ℕ → Connection → List ℕ
target m r k = only (eqb k.from r && drives m k) k.to

unfoldable pub alias : Model → ℕ → ℕ → BoundaryOutput → List ℕ
alias m r i o = only (eqb o.source r && sound m o) (connector_count m + i)

-- The members of a cluster behind its root: connections in their order, then boundary outputs in theirs.
unfoldable pub driven : Model → ℕ → List ℕ
driven m r =
    each (connection_count m) (λ k. target m r (connection m k))
    ++ each (boundary_output_count m) (λ i. alias m r i (boundary_output m i))

-- A connector is a root if it drives something.
unfoldable pub is_root : Model → ℕ → Bool
is_root m r = ltb 0 (length (driven m r))
