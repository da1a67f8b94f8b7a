use Rattle.std.proofs.Common.{arith}
use Rattle.image_records.proofs.Laws.{input-near}
use Rattle.image_records.proofs.Images.{an-input, input-attrs}
use Rattle.image_records.proofs.image.Image.boundary_input_attrs_at.Goals as goal

pub record_at-at-requires : goal.record_at-at-requires
record_at-at-requires c = input-near c.self.invariant.0 (an-input c.self.view_is c.self.invariant.0 c.requires)

pub returns : goal.returns
returns c = input-attrs c.self.view_is c.self.invariant.0 c.requires (omega arith)
