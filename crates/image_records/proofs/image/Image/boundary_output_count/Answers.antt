use Rattle.image_records.proofs.Images.{outputs-of}
use Rattle.image_records.proofs.image.Image.boundary_output_count.Goals as goal

pub returns : goal.returns
returns c = outputs-of c.self.view_is c.self.invariant.0
