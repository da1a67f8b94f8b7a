-- The lines that list an image's fields, up to the first that runs past its end: offset, tag and length, in decimal.
use Rattle.std.specs.Prelude.{ℕ, ◌+◌, ◌<◌, ◌≤◌, ◌≡◌, List, [], ◌∷◌, ◌++◌, length, Option, None, Some, IfSome}
use Rattle.oce_model.specs.Image.{fields_from}
use Rattle.oce_model.specs.declared.Field.{Field}
use Rattle.decimal.specs.Decimal.{decimal, most_digits, most_byte_digits}
use Rattle.printed.specs.Printed.{space, newline}

unfoldable pub field_line : ℕ → ℕ → ℕ → List ℕ
field_line at tag len = decimal at ++ (space ++ decimal tag) ++ (space ++ decimal len) ++ newline

unfoldable pub field_lines : List Field → List ℕ
field_lines [] = []
field_lines (f ∷ fs) = field_line f.at f.tag f.len ++ field_lines fs

-- of all fields from an offset on; from 0 on they are those of `fields s`
abbrev pub lines_from : List ℕ → ℕ → List ℕ
lines_from s at = field_lines (fields_from (length s) s at 0 0)

-- no line is longer
abbrev pub longest_field_line : ℕ
longest_field_line = most_digits + (1 + most_byte_digits) + (1 + most_digits) + 1

-- those from the next offset on, if there is one
abbrev pub lines_left : List ℕ → Option ℕ → List ℕ
lines_left s None = []
lines_left s (Some at) = lines_from s at

-- the text b with some room has become b': behind it stand lines, and they and those of the fields that are left are all from the offset `from` on
pub record Pieced (s : List ℕ) (from room : ℕ) (b b' : List ℕ) (next : Option ℕ) : Type 0 where
  pub lines : List ℕ
  pub bytes : b' ≡ b ++ lines
  pub all : lines_from s from ≡ lines ++ lines_left s next
  pub within : IfSome next (λ at. at ≤ length s)
  -- where the longest line has room, the next offset is further on
  pub moves : length b + longest_field_line ≤ room → IfSome next (λ at. from < at)
