-- Every definition of this crate and of those below it, opened: a claim that is `unfolding computed` computes.
use Rattle.std.specs.Prelude.{ℕ}
use Rattle.oce_diag.specs.Computed.{computed as computed_below}
use Rattle.structural.specs.Degrees.{degree, external}
use Rattle.structural.specs.Structural.{port_faults, block_faults, connector_faults, rule1, output_faults, rule2, assignment_faults, rule3, in_range, connection_faults, rule4}

unfoldable pub computed : ℕ
unfolding computed_below degree external port_faults block_faults connector_faults rule1 output_faults rule2 assignment_faults rule3 in_range connection_faults rule4
computed = 0
