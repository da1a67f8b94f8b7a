use Rattle.image_records.proofs.Images.{connections-of}
use Rattle.image_records.proofs.image.Image.connection_count.Goals as goal

pub returns : goal.returns
returns c = connections-of c.self.view_is c.self.invariant.0
