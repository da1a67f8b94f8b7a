-- A turn puts the line of the field where the reader stands; where none is, all are put.
use Rattle.reader.proofs.Laws.{stands}
use Rattle.field_lines.proofs.Laws.{listing_turn, listing_end}
use Rattle.field_lines.proofs.put_fields.Goals as goal

pub returns-in_err-field : goal.returns-in_err-field
returns-in_err-field g c =
    let over = c.loop-fields.invariant.image in
    rw c.from_residual.ensures (listing_end c.loop-fields.invariant.so_far _ (rw over at c.in_err-field.ensures.steps.found))

pub loop-fields-preserved : goal.loop-fields-preserved
loop-fields-preserved g c =
    let over = c.loop-fields.invariant.image in
    let read = c.in_ok-field.ensures.steps in
    record { so_far = rw (rw over at read.place) (listing_turn c.loop-fields.invariant.so_far (stands (rw over at read.found)) c.put_field.ensures); image = rw read.image over }
