-- What stands behind its summary is a row of the diagnostics that it counts.
use Rattle.std.proofs.Common.{◌≡◌, ap, ◌∙◌, ◌++◌, arith, rules}
use Rattle.batch.specs.Fields.{image_in}
use Rattle.batch.specs.Output.{summary_of, count_of}
use Rattle.printed.specs.Printed.{first_line}
use Rattle.printed_batch.specs.PrintedBatch.{image_line}
use Rattle.print_check.proofs.Pieces.{written_then}
use Rattle.print_batch.proofs.Laws.{part-row, counted-accepted, part-text, part-first}
use Rattle.print_batch.proofs.print_image.Goals as goal

pub print_report-requires : goal.print_report-requires
print_report-requires g c =
    let n : c.count_of-count.result ≡ count_of (summary_of (image_in c.args.batch.now c.args.f)) = c.count_of-count.ensures.0 ∙ ap count_of c.requires.answer in
    (rw c.image_in.ensures (counted-accepted _ (omega arith)), search rules, search (part-row, rules))

pub returns-then-count-eq0 : goal.returns-then-count-eq0
returns-then-count-eq0 g c =
    let none : count_of c.args.answer ≡ 0 = (let n = c.count_of-count.ensures.0 in omega arith) in
    let lines : c.deref.result.now ≡ image_line c.args.f.ord ++ first_line c.args.answer = c.deref.ensures.0 ∙ c.image_lines.ensures in
    rw (part-first (λ i. (c.type_inv.batch i).fits) c.requires none, ← lines) c.in_ok-write_all.ensures.bytes

pub returns : goal.returns
returns g c =
    let lines : c.deref.result.now ≡ image_line c.args.f.ord ++ first_line c.args.answer = c.deref.ensures.0 ∙ c.image_lines.ensures in
    written_then _ _ _ _ _ _ (rw lines at c.in_ok-write_all.ensures.bytes) c.print_report.ensures
    (rw (c.image_in.ensures, c.part_of.ensures, c.count_of-count.ensures.0) (part-text (λ i. (c.type_inv.batch i).fits) c.requires))
