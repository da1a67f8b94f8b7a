use Rattle.std.proofs.Common.{◌∙◌, sym, ap}
use Rattle.image_records.specs.Images.{block_value}
use Rattle.image_records.proofs.image.Image.block.Goals as goal

pub block_at-requires : goal.block_at-requires
block_at-requires c = rw c.self.view_is c.block_offset.ensures.1

pub returns : goal.returns
returns c = c.block_at.ensures ∙ ap block_value (rw c.self.view_is (sym c.block_offset.ensures.0))
