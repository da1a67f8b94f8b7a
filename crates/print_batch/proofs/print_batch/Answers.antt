-- What `check_batch` answers, and leaves in the output.
use Rattle.std.proofs.Common.{◌≡◌, ◌∙◌, rules}
use Rattle.printed_batch.specs.PrintedBatch.{refusal_line}
use Rattle.print_batch.proofs.Laws.{left, printed-refused, printed-written}
use Rattle.print_batch.proofs.print_batch.Goals as goal

pub print_images-requires : goal.print_images-requires
print_images-requires g c = search (left, rules)

pub returns-in-Err-clause-printed : goal.returns-in-Err-clause-printed
returns-in-Err-clause-printed g c =
    let line : c.deref.result.now ≡ refusal_line c.in-Err.refusal = c.deref.ensures.0 ∙ c.refusal_line.ensures in
    rw (printed-refused _ _ c.check_batch.ensures.answer c.in-Err.is, ← line) c.write_all.ensures.bytes

pub returns-in-Ok-clause-printed : goal.returns-in-Ok-clause-printed
returns-in-Ok-clause-printed g c = rw (printed-written _ _ c.check_batch.ensures.answer c.in-Ok.is) c.print_images.ensures
