-- What a call leaves that prints some of a report's lines.
use Rattle.std.specs.Prelude.{ℕ, ◌+◌, ◌-◌, ◌*◌, ◌≤◌, ◌<◌, ◌≡◌, List, ◌++◌, length, Some}
use Rattle.oce_diag.specs.Encoding.{diagnostic_tag, diagnostic_length, diagnostic_size}
use Rattle.reader.specs.Reading.{found_at, after_at}
use Rattle.printed.specs.Printed.{lines_from, longest_line}

-- A report is a row of diagnostics, count of them at least: a reader finds the field of one where the one before ends.
pub record Row (report : List ℕ) (count : ℕ) : Type 0 where
  pub found : (i : ℕ) → i < count → found_at report (diagnostic_size * i) ≡ Some (record { at = diagnostic_size * i; tag = diagnostic_tag; len = diagnostic_length })
  pub after : (i : ℕ) → i < count → after_at report (diagnostic_size * i) ≡ diagnostic_size * (i + 1)
  pub fits : diagnostic_size * count ≤ length report

-- the text b with some room has become b': behind it stand the lines of the diagnostics from `from` up to the next to print, of count in all
pub record Pieced (s report : List ℕ) (from count room : ℕ) (b b' : List ℕ) (next : ℕ) : Type 0 where
  pub forward : from ≤ next
  pub within : next ≤ count
  pub bytes : b' ≡ b ++ lines_from s report from (next - from)
  -- some line, where one is left and the longest has room
  pub moves : from < count → length b + longest_line ≤ room → from < next
