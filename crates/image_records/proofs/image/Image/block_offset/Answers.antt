use Rattle.std.proofs.Common.{arith}
use Rattle.image_records.proofs.Images.{block-listed, block-offset}
use Rattle.image_records.proofs.image.Image.block_offset.Goals as goal

pub bounds-self-inside-i : goal.bounds-self-inside-i
bounds-self-inside-i c = block-listed c.self.view_is c.self.invariant.0 c.self.invariant.2 c.requires

pub returns : goal.returns
returns c = block-offset c.self.view_is c.self.invariant.0 c.self.invariant.2 c.requires (omega arith)
