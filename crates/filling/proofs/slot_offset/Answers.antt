-- `filling::slot_offset` meets its contract.
use Rattle.std.proofs.Common.{◌+◌, ap, rules}
use Rattle.oce_model.specs.Format.{connector_attrs, boundary_output_attrs}
use Rattle.filling.proofs.Laws.{connector-offset, connector-near, output-offset, output-near}
use Rattle.filling.proofs.slot_offset.Goals as goal

pub record_at-requires : goal.record_at-requires
record_at-requires c = connector-near c.layout-layout.ensures (search rules)

pub record_at-requires-else-j-connectors : goal.record_at-requires-else-j-connectors
record_at-requires-else-j-connectors c = output-near c.layout-layout.ensures (search rules) (search rules)

pub returns-then-j-connectors : goal.returns-then-j-connectors
returns-then-j-connectors c = connector-offset c.layout-layout.ensures (ap (λ n. n + connector_attrs) c.record_at.ensures.0) (search rules)

pub returns-else-j-connectors : goal.returns-else-j-connectors
returns-else-j-connectors c =
    output-offset c.layout-layout.ensures (ap (λ n. n + boundary_output_attrs) c.record_at-else-j-connectors.ensures.0) (search rules) (search rules)
