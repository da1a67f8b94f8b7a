use Rattle.image_records.proofs.Images.{connectors-of}
use Rattle.image_records.proofs.image.Image.connector_count.Goals as goal

pub returns : goal.returns
returns c = connectors-of c.self.view_is c.self.invariant.0
