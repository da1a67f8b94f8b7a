-- A turn writes the lines of a piece.
use Rattle.std.proofs.Common.{◌≡◌, arith}
use Rattle.print_check.proofs.Pieces.{listing_start, listing_turn, listing_less}
use Rattle.print_check.proofs.print_fields.Goals as goal

pub loop-next-init : goal.loop-next-init
loop-next-init g c = record { short = omega arith; within = omega arith; empty = c.new-out.ensures; written = listing_start _ _ }

pub loop-next-smaller : goal.loop-next-smaller
loop-next-smaller g c = rw c.in-Some.is (listing_less _ c.put_fields-next.ensures (rw c.loop-next.invariant.empty (omega arith)))

pub loop-next-preserved : goal.loop-next-preserved
loop-next-preserved g c =
    let all : c.deref.result.now ≡ c.put_fields-next.new.out.items = c.deref.ensures.0 in
    record {
      short = omega arith;
      within = c.put_fields-next.ensures.within;
      empty = c.clear.ensures;
      written = listing_turn _ _ _ (rw c.in-Some.is at c.loop-next.invariant.written) c.put_fields-next.ensures c.loop-next.invariant.empty (rw all at c.in_ok-write_all.ensures.bytes);
    }
