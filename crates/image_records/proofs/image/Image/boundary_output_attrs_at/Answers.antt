use Rattle.std.proofs.Common.{arith}
use Rattle.image_records.proofs.Laws.{output-near}
use Rattle.image_records.proofs.Images.{an-output, output-attrs}
use Rattle.image_records.proofs.image.Image.boundary_output_attrs_at.Goals as goal

pub record_at-at-requires : goal.record_at-at-requires
record_at-at-requires c = output-near c.self.invariant.0 (an-output c.self.view_is c.self.invariant.0 c.requires)

pub returns : goal.returns
returns c = output-attrs c.self.view_is c.self.invariant.0 c.requires (omega arith)
