-- A turn writes the lines of a piece.
use Rattle.std.proofs.Common.{◌≡◌, arith}
use Rattle.print_check.proofs.Pieces.{lines_start, lines_turn}
use Rattle.print_check.proofs.print_lines.Goals as goal

pub loop-next-init : goal.loop-next-init
loop-next-init g c = record { within = omega arith; empty = c.new-out.ensures; written = lines_start _ _ _ }

pub loop-next-preserved : goal.loop-next-preserved
loop-next-preserved g c =
    let all : c.deref.result.now ≡ c.put_lines-next.new.out.items = c.deref.ensures.0 in
    record { within = c.put_lines-next.ensures.within; empty = c.clear.ensures; written = lines_turn _ _ _ c.loop-next.invariant.written c.put_lines-next.ensures c.loop-next.invariant.empty (rw all at c.in_ok-write_all.ensures.bytes) }
