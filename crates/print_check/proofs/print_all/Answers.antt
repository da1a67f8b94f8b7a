-- What is written is the first line, and the lines of as many diagnostics as were counted.
use Rattle.std.proofs.Common.{◌≡◌, ap, sym, ◌∙◌, ◌++◌}
use Rattle.printed.specs.Printed.{first_line, lines_from}
use Rattle.print_check.specs.Outcome.{count_of}
use Rattle.print_check.proofs.Laws.{known, refused_alone}
use Rattle.print_check.proofs.Pieces.{written_then}
use Rattle.print_check.proofs.print_all.Goals as goal

pub print_report-requires : goal.print_report-requires
print_report-requires g c =
    let k = known (λ i. (c.type_inv.image i).fits) c.requires in
    (k.accepted c.in-Ok.is, rw (c.total.ensures.0, ← (ap count_of c.in-Ok.is)) k.few, rw (c.total.ensures.0, ← (ap count_of c.in-Ok.is)) k.row)

pub returns-in-Err : goal.returns-in-Err
returns-in-Err g c =
    let first : c.deref.result.now ≡ first_line c.args.answer = c.deref.ensures.0 ∙ c.first_line.ensures in
    rw (refused_alone _ c.in-Err.is, ← first) c.in_ok-write_all.ensures.bytes

pub returns-in-Ok : goal.returns-in-Ok
returns-in-Ok g c =
    let k = known (λ i. (c.type_inv.image i).fits) c.requires in
    let first : c.deref.result.now ≡ first_line c.args.answer = c.deref.ensures.0 ∙ c.first_line.ensures in
    let count : count_of c.args.answer ≡ c.total.result = ap count_of c.in-Ok.is ∙ sym c.total.ensures.0 in
    written_then _ _ _ _ _ _ (rw first at c.in_ok-write_all.ensures.bytes) c.print_report.ensures (k.whole ∙ ap (λ n. first_line c.args.answer ++ lines_from c.args.image.now c.args.report.now 0 n) count)
