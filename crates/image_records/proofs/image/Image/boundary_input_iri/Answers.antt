use Rattle.image_records.proofs.Laws.{input-near, input-inside, input-iri}
use Rattle.image_records.proofs.Images.{an-input}
use Rattle.image_records.proofs.image.Image.boundary_input_iri.Goals as goal

pub record_at-at-requires : goal.record_at-at-requires
record_at-at-requires c = input-near c.self.invariant.0 (an-input c.self.view_is c.self.invariant.0 c.requires)

pub read-requires : goal.read-requires
read-requires c = input-inside c.self.invariant.0 (an-input c.self.view_is c.self.invariant.0 c.requires) c.record_at-at.ensures.0

pub returns : goal.returns
returns c =
    let k = an-input c.self.view_is c.self.invariant.0 c.requires in
    rw (← c.self.view_is) (input-iri c.self.invariant.0 k c.record_at-at.ensures.0 c.read.ensures)
