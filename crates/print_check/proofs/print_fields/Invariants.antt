-- The lines of the fields before the next one are written, and each piece holds a line at least, so it ends.
use Rattle.std.proofs.Common.{◌≡◌, ◌≤◌, [], length}
use Rattle.std.specs.Prelude.{IfSome}
use Rattle.oce_model.specs.Format.{longest_image}
use Rattle.print_check.proofs.Pieces.{Listing, left}
use Rattle.print_check.proofs.print_fields.Given as goal

abbrev pub invariant-loop-next : goal.invariant-loop-next
invariant-loop-next g l = record {
  short : length l.image ≤ longest_image;
  within : IfSome l.next (λ at. at ≤ length l.image);
  empty : l.out.items ≡ [];
  written : Listing l.image (g.W.Write.contents l.fn.to) (g.W.Write.contents l.to) l.next;
}

abbrev pub decreases-loop-next : goal.decreases-loop-next
decreases-loop-next g l = left l.image l.next
