use Rattle.image_records.proofs.Laws.{connection-near, connection-from, connection-to, connection-read}
use Rattle.image_records.proofs.Images.{a-connection}
use Rattle.image_records.proofs.image.Image.connection.Goals as goal

pub record_at-at-requires : goal.record_at-at-requires
record_at-at-requires c = connection-near c.self.invariant.0 (a-connection c.self.view_is c.self.invariant.0 c.requires)

pub read-requires : goal.read-requires
read-requires c = connection-from c.self.invariant.0 (a-connection c.self.view_is c.self.invariant.0 c.requires) c.record_at-at.ensures.0

pub read-requires-2 : goal.read-requires-2
read-requires-2 c = connection-to c.self.invariant.0 (a-connection c.self.view_is c.self.invariant.0 c.requires) c.record_at-at.ensures.0

pub returns : goal.returns
returns c =
    let k = a-connection c.self.view_is c.self.invariant.0 c.requires in
    rw (← c.self.view_is) (connection-read c.self.invariant.0 k c.record_at-at.ensures.0 c.read.ensures c.read-2.ensures)
