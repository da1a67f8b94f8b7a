use Rattle.std.proofs.Common.{◌∙◌}
use Rattle.image_records.proofs.image.Image.boundary_output_attrs.Goals as goal

pub attrs_inside-requires : goal.attrs_inside-requires
attrs_inside-requires c = rw c.self.view_is c.boundary_output_attrs_at.ensures.2

pub returns : goal.returns
returns c = c.attrs_inside.ensures ∙ rw c.self.view_is c.boundary_output_attrs_at.ensures.0
