-- A text is no longer than the longest.
use Rattle.std.proofs.Common.{◌≤◌, length, length-append, arith}
use Rattle.oce_model.specs.Format.{longest_text}
use Rattle.printed.proofs.Laws.{text_few}
use Rattle.printed.proofs.put_subject.Goals as goal

pub returns-in-Text-clause-few : goal.returns-in-Text-clause-few
returns-in-Text-clause-few g c =
    let few : length c.text.result.now ≤ longest_text = rw c.text.ensures (text_few c.layout-laid.ensures _) in
    rw (c.put_bytes-in-Text.ensures, length-append) (omega arith)
