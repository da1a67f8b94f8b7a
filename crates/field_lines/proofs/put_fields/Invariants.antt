-- The lines of the fields before the reader's place are put.
use Rattle.std.proofs.Common.{◌≡◌, ◌-◌, length}
use Rattle.field_lines.proofs.Laws.{Listing}
use Rattle.field_lines.proofs.put_fields.Given as goal

abbrev pub invariant-loop-fields : goal.invariant-loop-fields
invariant-loop-fields g l = record {
  so_far : Listing l.image l.from l.fn.out.items l.out.items l.fields.at;
  image : l.fields.image.now ≡ l.image;
}

abbrev pub decreases-loop-fields : goal.decreases-loop-fields
decreases-loop-fields g l = length l.image - l.fields.at
