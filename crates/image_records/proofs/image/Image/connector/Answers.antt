use Rattle.image_records.proofs.Laws.{connector-near, connector-inside, connector-read, connector-turned, connector-typed}
use Rattle.image_records.proofs.Images.{a-connector}
use Rattle.image_records.proofs.image.Image.connector.Goals as goal

pub record_at-requires : goal.record_at-requires
record_at-requires c = connector-near c.self.invariant.0 (a-connector c.self.view_is c.self.invariant.0 c.requires)

pub connector_at-requires : goal.connector_at-requires
connector_at-requires c = (c.record_at.ensures.1, connector-inside c.self.invariant.0 (a-connector c.self.view_is c.self.invariant.0 c.requires) c.record_at.ensures.0)

pub returns : goal.returns
returns c =
    let k = a-connector c.self.view_is c.self.invariant.0 c.requires in
    let e = connector-read c.self.invariant.0 k c.record_at.ensures.0 c.connector_at.ensures in
    rw (← c.self.view_is) (e, connector-turned c.self.invariant.0 k e, connector-typed c.self.invariant.0 k e)
