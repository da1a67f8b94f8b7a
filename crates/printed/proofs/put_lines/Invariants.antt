-- The lines of the diagnostics before i are put, and the reader stands at the diagnostic i.
use Rattle.std.proofs.Common.{◌≡◌, ◌*◌}
use Rattle.oce_diag.specs.Encoding.{diagnostic_size}
use Rattle.printed.proofs.Laws.{Printing}
use Rattle.printed.proofs.put_lines.Given as goal

abbrev pub invariant-loop-i : goal.invariant-loop-i
invariant-loop-i g l = record {
  so_far : Printing l.image l.report l.from l.fn.out.items l.out.items l.i;
  report : l.fields.image.now ≡ l.report;
  place : l.fields.at ≡ diagnostic_size * l.i;
}
