-- The lines before the next one are written, and each piece holds a line at least, so it ends.
use Rattle.std.proofs.Common.{◌-◌, ◌≡◌, ◌≤◌, []}
use Rattle.std.specs.Io.KnownBytes.{Appends}
use Rattle.printed.specs.Printed.{lines_from}
use Rattle.print_check.proofs.print_lines.Given as goal

abbrev pub invariant-loop-next : goal.invariant-loop-next
invariant-loop-next g l = record {
  within : l.next ≤ l.count;
  empty : l.out.items ≡ [];
  written : Appends (g.W.Write.contents l.fn.to) (g.W.Write.contents l.to) (lines_from l.image l.report 0 l.next);
}

abbrev pub decreases-loop-next : goal.decreases-loop-next
decreases-loop-next g l = l.count - l.next
