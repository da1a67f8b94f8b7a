use Rattle.image_records.proofs.Laws.{external-near, external-inside, external-read}
use Rattle.image_records.proofs.Images.{an-external}
use Rattle.image_records.proofs.image.Image.external_input.Goals as goal

pub record_at-at-requires : goal.record_at-at-requires
record_at-at-requires c = external-near c.self.invariant.0 (an-external c.self.view_is c.self.invariant.0 c.requires)

pub read-requires : goal.read-requires
read-requires c = external-inside c.self.invariant.0 (an-external c.self.view_is c.self.invariant.0 c.requires) c.record_at-at.ensures.0

pub returns : goal.returns
returns c =
    let k = an-external c.self.view_is c.self.invariant.0 c.requires in
    rw (← c.self.view_is) (external-read c.self.invariant.0 k c.record_at-at.ensures.0 c.read.ensures)
