use Rattle.image_records.proofs.Images.{block-whole}
use Rattle.std.proofs.Common.{◌∙◌}
use Rattle.image_records.proofs.blocks.block_at.Goals as goal

pub returns : goal.returns
returns c = block-whole _ _ c.read-3.ensures c.read-4.ensures (c.from-inputs.ensures ∙ c.read.ensures) (c.from-outputs.ensures ∙ c.read-2.ensures)
