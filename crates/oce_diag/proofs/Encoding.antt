-- The lengths of a diagnostic's bytes and of a report's.
use Prim.Native.Nat.{ℕ, ◌*◌}
use native.Mathlib.Nat.{mul-suc, div-div-eq-div-mul}
use native.Mathlib.Omega.{arith}
use mathlib.Core.Path.{◌≡◌, refl}
use mathlib.Core.List.{List, [], ◌∷◌}
use lib.ListN.{length, get_or, length-append}
use Rattle.std.specs.Int.{w32, to_le_bytes}
use Rattle.numbers.specs.Bytes.{le_bytes}
use Rattle.oce_diag.specs.Encoding.{severity_number, code_number, subject_kind, subject_number, diagnostic_size, diagnostic_bytes, report_bytes}
use Rattle.oce_diag.specs.declared.Diagnostic.{Diagnostic}

pub diagnostic_bytes-length : (d : Diagnostic) → length (diagnostic_bytes d) ≡ diagnostic_size
unfolding diagnostic_bytes le_bytes
diagnostic_bytes-length d = refl

pub report_bytes-length : (ds : List Diagnostic) → length (report_bytes ds) ≡ diagnostic_size * length ds
unfolding report_bytes
report_bytes-length [] = refl
report_bytes-length (d ∷ ds) =
    rw (length-append (diagnostic_bytes d) (report_bytes ds), diagnostic_bytes-length d, report_bytes-length ds) (omega (arith, mul-suc diagnostic_size (length ds)))

-- a diagnostic's bytes from the parts that code puts side by side
pub encoded : (d : Diagnostic) {s k a n : ℕ} {ns ps : List ℕ} → s ≡ severity_number d.severity → k ≡ code_number d.code → a ≡ subject_kind d.subject
    → n ≡ subject_number d.subject → ns ≡ to_le_bytes w32 n → ps ≡ to_le_bytes w32 d.place
    → 32 ∷ 16 ∷ 0 ∷ s ∷ k ∷ d.rule ∷ d.detail ∷ a ∷ 0 ∷ 0 ∷ 0 ∷ get_or ns 0 0 ∷ get_or ns 1 0 ∷ get_or ns 2 0 ∷ get_or ns 3 0 ∷ get_or ps 0 0 ∷ get_or ps 1 0 ∷ get_or ps 2 0 ∷ get_or ps 3 0 ∷ []
    ≡ diagnostic_bytes d
unfolding diagnostic_bytes le_bytes
encoded d e f g h x y =
    let m = subject_number d.subject in
    let p = d.place in
    rw (e, f, g, x, y, h, div-div-eq-div-mul m 256 256, div-div-eq-div-mul m 65536 256, div-div-eq-div-mul p 256 256, div-div-eq-div-mul p 65536 256) refl
