-- A turn puts the line of the diagnostic where the reader stands, and the reader goes on to where the next one begins.
use Rattle.std.proofs.Common.{◌≡◌, ◌<◌, ◌+◌, ◌*◌, ℕ, List, Some, arith, refl, ◌∙◌}
use Rattle.oce_diag.specs.Encoding.{diagnostic_size}
use Rattle.oce_diag.specs.Decoded.{decoded_at, diagnostic_at}
use Rattle.reader.specs.Reading.{Reads}
use Rattle.reader.specs.declared.Found.{Found}
use Rattle.reader.specs.declared.Reader.{Reader}
use Rattle.printed.specs.Pieces.{Row}
use Rattle.printed.proofs.Laws.{printing_start, printing_turn, printing_full}
use Rattle.printed.proofs.put_lines.Goals as goal

-- what is read in a row is the diagnostic there
module _ {report : List ℕ} {count i : ℕ} (row : Row report count) (h : i < count) {f : Found} {r rest : Reader} (read : Reads r (Some f) rest) (over : r.image.now ≡ report) (stands : r.at ≡ diagnostic_size * i) where
  here : f.at ≡ diagnostic_size * i
  here = let e = rw (over, stands) at read.found in let n = row.found i h in cc

  decoded : decoded_at report f.at ≡ diagnostic_at report i
  unfolding diagnostic_at
  decoded = rw here

  next : rest.at ≡ diagnostic_size * (i + 1)
  next = rw (over, stands) at read.place ∙ row.after i h

pub loop-i-init : goal.loop-i-init
loop-i-init g c = record { so_far = printing_start _ _ _ _; report = refl; place = refl }

pub returns-then-remaining_capacity-lt-LONGEST_LINE : goal.returns-then-remaining_capacity-lt-LONGEST_LINE
returns-then-remaining_capacity-lt-LONGEST_LINE g c = printing_full c.loop-i.invariant.so_far (omega arith) (omega arith)

pub loop-i-preserved : goal.loop-i-preserved
loop-i-preserved g c =
    let read = c.in-Some.ensures.steps in
    let over = c.loop-i.invariant.report in
    let stands = c.loop-i.invariant.place in
    let left : c.loop-i.i < c.args.count = omega arith in
    let same : c.decode.result ≡ diagnostic_at c.args.report.now c.loop-i.i = c.decode.ensures ∙ decoded c.requires.2 left read over stands in
    record { so_far = printing_turn c.loop-i.invariant.so_far (rw same at c.put_line.ensures); report = rw read.image over; place = next c.requires.2 left read over stands }
