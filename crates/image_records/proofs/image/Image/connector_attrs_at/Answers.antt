use Rattle.std.proofs.Common.{arith}
use Rattle.image_records.proofs.Laws.{connector-near}
use Rattle.image_records.proofs.Images.{a-connector, connector-attrs}
use Rattle.image_records.proofs.image.Image.connector_attrs_at.Goals as goal

pub record_at-at-requires : goal.record_at-at-requires
record_at-at-requires c = connector-near c.self.invariant.0 (a-connector c.self.view_is c.self.invariant.0 c.requires)

pub returns : goal.returns
returns c = connector-attrs c.self.view_is c.self.invariant.0 c.requires (omega arith)
