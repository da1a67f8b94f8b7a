-- The bytes of a report's diagnostics are a row, whatever stands behind them.
use Prim.Native.Nat.{ℕ, zero, suc, ◌+◌, ◌*◌, ◌<◌, ◌≤◌}
use native.Mathlib.Nat.{mul-suc}
use native.Mathlib.Omega.{arith}
use mathlib.Core.Path.{◌≡◌, refl, ◌∙◌}
use mathlib.Core.Bool.{true}
use mathlib.Core.List.{List, [], ◌∷◌, ◌++◌, append_assoc}
use lib.ListN.{length, drop, length-append}
use lib.Seq.{get_or-append-add}
use borrow.Author.Tests.{le-leb}
use Rattle.base.specs.Buffers.{starts_with}
use Rattle.numbers.specs.Bytes.{byte, le_at, le16, le_bytes}
use Rattle.numbers.proofs.Bytes.{le-append-right}
use Rattle.oce_model.specs.Format.{field_length_at}
use Rattle.oce_model.specs.Image.{field_end}
use Rattle.oce_diag.specs.Encoding.{diagnostic_tag, diagnostic_length, diagnostic_size, diagnostic_bytes, report_bytes}
use Rattle.oce_diag.specs.declared.Diagnostic.{Diagnostic}
use Rattle.oce_diag.proofs.Encoding.{diagnostic_bytes-length, report_bytes-length}
use Rattle.reader.specs.Reading.{whole, found_at, after_at}
use Rattle.std.specs.Prelude.{Some}
use Rattle.printed.specs.Pieces.{Row}

-- ---- tag and length of each

module _ (d : Diagnostic) (r : List ℕ) where
  tag-first : byte (diagnostic_bytes d ++ r) 0 ≡ diagnostic_tag
  unfolding diagnostic_bytes le_bytes
  tag-first = refl

  length-first : le16 (diagnostic_bytes d ++ r) field_length_at ≡ diagnostic_length
  unfolding diagnostic_bytes le_bytes le_at
  length-first = refl

-- the next begins behind the first
behind : (d : Diagnostic) (i : ℕ) → diagnostic_size * suc i ≡ length (diagnostic_bytes d) + diagnostic_size * i
behind d i = rw (diagnostic_bytes-length d) (omega (arith, mul-suc diagnostic_size i))

tag_at : (ds : List Diagnostic) (r : List ℕ) (i : ℕ) → i < length ds → byte (report_bytes ds ++ r) (diagnostic_size * i) ≡ diagnostic_tag
unfolding report_bytes
tag_at [] r i h = absurd (omega arith)
tag_at (d ∷ ds) r zero h = rw (append_assoc (diagnostic_bytes d) (report_bytes ds) r) (tag-first d (report_bytes ds ++ r))
tag_at (d ∷ ds) r (suc i) h =
    rw (append_assoc (diagnostic_bytes d) (report_bytes ds) r, behind d i)
    (get_or-append-add (diagnostic_bytes d) (report_bytes ds ++ r) (diagnostic_size * i) 0 ∙ tag_at ds r i (omega arith))

length_at : (ds : List Diagnostic) (r : List ℕ) (i : ℕ) → i < length ds → le16 (report_bytes ds ++ r) (diagnostic_size * i + field_length_at) ≡ diagnostic_length
unfolding report_bytes
length_at [] r i h = absurd (omega arith)
length_at (d ∷ ds) r zero h = rw (append_assoc (diagnostic_bytes d) (report_bytes ds) r) (length-first d (report_bytes ds ++ r))
length_at (d ∷ ds) r (suc i) h =
    let e : diagnostic_size * suc i + field_length_at ≡ length (diagnostic_bytes d) + (diagnostic_size * i + field_length_at) = (let b = behind d i in omega arith) in
    rw (append_assoc (diagnostic_bytes d) (report_bytes ds) r, e)
    (le-append-right 2 (diagnostic_bytes d) (report_bytes ds ++ r) (diagnostic_size * i + field_length_at) ∙ length_at ds r i (omega arith))

-- ---- the row

module _ (ds : List Diagnostic) (r : List ℕ) where
  xs : List ℕ
  xs = report_bytes ds ++ r

  long : diagnostic_size * length ds ≤ length xs
  unfolding xs
  long = let n : length (report_bytes ds ++ r) ≡ length (report_bytes ds) + length r = length-append (report_bytes ds) r in omega (arith, report_bytes-length ds)

  module _ (i : ℕ) (h : i < length ds) where
    ends : field_end xs (diagnostic_size * i) ≡ diagnostic_size * (i + 1)
    unfolding field_end xs
    ends = rw (length_at ds r i h) (omega arith)

    one : whole xs (diagnostic_size * i) ≡ true
    one = let e = ends in let l = long in let fits : field_end xs (diagnostic_size * i) ≤ length xs = omega arith in le-leb _ _ fits

    found : found_at xs (diagnostic_size * i) ≡ Some (record { at = diagnostic_size * i; tag = diagnostic_tag; len = diagnostic_length })
    unfolding xs
    found = rw (one, tag_at ds r i h, length_at ds r i h)

    after : after_at xs (diagnostic_size * i) ≡ diagnostic_size * (i + 1)
    after = rw one ends

  row : Row xs (length ds)
  row = record { found = found; after = after; fits = long }

pub row-report : (ds : List Diagnostic) (b : List ℕ) → Row (starts_with (report_bytes ds) b) (length ds)
unfolding starts_with xs
row-report ds b = row ds (drop (length (report_bytes ds)) b)
