use Rattle.image_records.proofs.Images.{inputs-of}
use Rattle.image_records.proofs.image.Image.boundary_input_count.Goals as goal

pub returns : goal.returns
returns c = inputs-of c.self.view_is c.self.invariant.0
