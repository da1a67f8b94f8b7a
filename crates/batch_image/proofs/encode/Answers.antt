-- `batch_image::encode` meets its contract.
use Rattle.batch_image.proofs.Laws.{field-parts}
use Rattle.batch_image.proofs.encode.Goals as goal

pub returns : goal.returns
returns c = field-parts _ _ c.to_le_bytes.ensures c.to_le_bytes-2.ensures c.to_le_bytes-3.ensures
