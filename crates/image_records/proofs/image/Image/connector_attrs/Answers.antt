use Rattle.std.proofs.Common.{◌∙◌}
use Rattle.image_records.proofs.image.Image.connector_attrs.Goals as goal

pub attrs_inside-requires : goal.attrs_inside-requires
attrs_inside-requires c = rw c.self.view_is c.connector_attrs_at.ensures.2

pub returns : goal.returns
returns c = c.attrs_inside.ensures ∙ rw c.self.view_is c.connector_attrs_at.ensures.0
