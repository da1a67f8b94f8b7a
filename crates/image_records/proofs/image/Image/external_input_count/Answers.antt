use Rattle.image_records.proofs.Images.{externals-of}
use Rattle.image_records.proofs.image.Image.external_input_count.Goals as goal

pub returns : goal.returns
returns c = externals-of c.self.view_is c.self.invariant.0
