use Rattle.image_records.proofs.Images.{blocks-of}
use Rattle.image_records.proofs.image.Image.block_count.Goals as goal

pub returns : goal.returns
returns c = blocks-of c.self.view_is c.self.invariant.0
