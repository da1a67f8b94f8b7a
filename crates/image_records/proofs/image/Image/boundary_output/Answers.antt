use Rattle.image_records.proofs.Laws.{output-near, output-inside, output-source, output-read}
use Rattle.image_records.proofs.Images.{an-output}
use Rattle.image_records.proofs.image.Image.boundary_output.Goals as goal

pub record_at-at-requires : goal.record_at-at-requires
record_at-at-requires c = output-near c.self.invariant.0 (an-output c.self.view_is c.self.invariant.0 c.requires)

pub read-requires : goal.read-requires
read-requires c = output-inside c.self.invariant.0 (an-output c.self.view_is c.self.invariant.0 c.requires) c.record_at-at.ensures.0

pub read-requires-2 : goal.read-requires-2
read-requires-2 c = output-source c.self.invariant.0 (an-output c.self.view_is c.self.invariant.0 c.requires) c.record_at-at.ensures.0

pub returns : goal.returns
returns c =
    let k = an-output c.self.view_is c.self.invariant.0 c.requires in
    rw (← c.self.view_is) (output-read c.self.invariant.0 k c.record_at-at.ensures.0 c.read.ensures c.read-2.ensures)
