-- Reading the bytes of diagnostics gives them back.
use Prim.Native.Nat.{ℕ, zero, suc, ◌+◌, ◌*◌, ◌<◌}
use native.Mathlib.Nat.{mul-suc}
use native.Mathlib.Omega.{arith}
use mathlib.Core.Path.{◌≡◌, refl, sym, ◌∙◌}
use mathlib.Core.List.Memᴰ
use mathlib.Core.List.{List, [], ◌∷◌, ◌++◌, append_assoc}
use lib.ListN.{length, get_or}
use lib.Seq.{get_or-append-add}
use Rattle.numbers.specs.Bytes.{byte, le32, le_bytes}
use Rattle.numbers.proofs.Bytes.{le-append-right, le-bytes}
use Rattle.oce_diag.specs.Diagnostics.{diagnostic}
use Rattle.oce_diag.specs.Encoding.{diagnostic_tag, diagnostic_length, diagnostic_size, severity_number, code_number, subject_kind, subject_number, diagnostic_bytes, report_bytes}
use Rattle.oce_diag.proofs.Encoding.{diagnostic_bytes-length}
use Rattle.oce_diag.specs.declared.Severity.{Severity}
use Rattle.oce_diag.specs.declared.Severity.TheVariants.{Error, Warning}
use Rattle.oce_diag.specs.declared.DiagCode.{DiagCode}
use Rattle.oce_diag.specs.declared.DiagCode.TheVariants.{MalformedDocument, DirectionMismatch, SingleAssignment, TypeMismatch, UnitQuantityMismatch, BoundMismatch, CrossedBounds, DisplayUnitDivergence}
use Rattle.oce_diag.specs.declared.Subject.{Subject}
use Rattle.oce_diag.specs.declared.Subject.TheVariants.{Nothing, Text, Connector, Block}
use Rattle.oce_diag.specs.declared.Diagnostic.{Diagnostic}
use Rattle.oce_diag.specs.Decoded.{severity_of, code_of, subject_from, decoded_at, diagnostic_at, Fitting, AllFitting}

-- ---- numbers and what has them

severity-back : (s : Severity) → severity_of (severity_number s) ≡ s
unfolding severity_of
severity-back Error = refl
severity-back Warning = refl

code-back : (c : DiagCode) → code_of (code_number c) ≡ c
unfolding code_of
code-back MalformedDocument = refl
code-back DirectionMismatch = refl
code-back SingleAssignment = refl
code-back TypeMismatch = refl
code-back UnitQuantityMismatch = refl
code-back BoundMismatch = refl
code-back CrossedBounds = refl
code-back DisplayUnitDivergence = refl

pub code_is : (c : DiagCode) {n : ℕ} → n ≡ code_number c → c ≡ code_of n
code_is c e = rw e (sym (code-back c))

subject-back : (s : Subject) → subject_from (subject_kind s) (subject_number s) ≡ s
unfolding subject_from
subject-back Nothing = refl
subject-back (Text t) = refl
subject-back (Connector i) = refl
subject-back (Block i) = refl

-- ---- one diagnostic

-- its bytes in front of its subject's number, and in front of its place
before-number : Diagnostic → List ℕ
before-number d = diagnostic_tag ∷ le_bytes 2 diagnostic_length ++ severity_number d.severity ∷ code_number d.code ∷ d.rule ∷ d.detail ∷ subject_kind d.subject ∷ 0 ∷ 0 ∷ 0 ∷ []

before-place : Diagnostic → List ℕ
before-place d = before-number d ++ le_bytes 4 (subject_number d.subject)

module _ (d : Diagnostic) (r : List ℕ) where
  number_behind : diagnostic_bytes d ++ r ≡ before-number d ++ (le_bytes 4 (subject_number d.subject) ++ (le_bytes 4 d.place ++ r))
  unfolding diagnostic_bytes le_bytes before-number
  number_behind = refl

  place-behind : diagnostic_bytes d ++ r ≡ before-place d ++ (le_bytes 4 d.place ++ r)
  unfolding diagnostic_bytes le_bytes before-number before-place
  place-behind = refl

  -- the severity, code, rule, detail and subject kind
  severity-byte : byte (diagnostic_bytes d ++ r) 3 ≡ severity_number d.severity
  unfolding diagnostic_bytes le_bytes
  severity-byte = refl

  code-byte : byte (diagnostic_bytes d ++ r) 4 ≡ code_number d.code
  unfolding diagnostic_bytes le_bytes
  code-byte = refl

  rule-byte : byte (diagnostic_bytes d ++ r) 5 ≡ d.rule
  unfolding diagnostic_bytes le_bytes
  rule-byte = refl

  detail-byte : byte (diagnostic_bytes d ++ r) 6 ≡ d.detail
  unfolding diagnostic_bytes le_bytes
  detail-byte = refl

  kind-byte : byte (diagnostic_bytes d ++ r) 7 ≡ subject_kind d.subject
  unfolding diagnostic_bytes le_bytes
  kind-byte = refl

  module _ (f : Fitting d) where
    number-back : le32 (diagnostic_bytes d ++ r) 11 ≡ subject_number d.subject
    unfolding before-number le_bytes
    number-back = rw number_behind (le-append-right 4 (before-number d) _ 0 ∙ le-bytes 4 (subject_number d.subject) _ f.number)

    place-back : le32 (diagnostic_bytes d ++ r) 15 ≡ d.place
    unfolding before-place before-number le_bytes
    place-back = rw place-behind (le-append-right 4 (before-place d) _ 0 ∙ le-bytes 4 d.place r f.place)

    -- reading a diagnostic's bytes gives it back
    pub decoded-back : decoded_at (diagnostic_bytes d ++ r) 0 ≡ d
    unfolding decoded_at diagnostic
    decoded-back =
        rw (severity-byte, code-byte, rule-byte, detail-byte, kind-byte, number-back, place-back, severity-back d.severity, code-back d.code, subject-back d.subject)

-- ---- one behind others

module _ (xs r : List ℕ) (at : ℕ) where
  byte-behind : (k : ℕ) → byte (xs ++ r) (length xs + at + k) ≡ byte r (at + k)
  byte-behind k =
      let e : length xs + at + k ≡ length xs + (at + k) = omega arith in
      rw e (get_or-append-add xs r (at + k) 0)

  le-behind : (k : ℕ) → le32 (xs ++ r) (length xs + at + k) ≡ le32 r (at + k)
  le-behind k =
      let e : length xs + at + k ≡ length xs + (at + k) = omega arith in
      rw e (le-append-right 4 xs r (at + k))

  decoded-behind : decoded_at (xs ++ r) (length xs + at) ≡ decoded_at r at
  unfolding decoded_at
  decoded-behind = rw (byte-behind 3, byte-behind 4, byte-behind 5, byte-behind 6, byte-behind 7, le-behind 11, le-behind 15)

-- a report's diagnostics, whatever stands behind them
pub report-back : (ds : List Diagnostic) (r : List ℕ) (i : ℕ) (e : Diagnostic) → AllFitting ds → i < length ds → diagnostic_at (report_bytes ds ++ r) i ≡ get_or ds i e
unfolding diagnostic_at report_bytes
report-back [] r i e f h = absurd (omega arith)
report-back (d ∷ ds) r zero e f h = rw (append_assoc (diagnostic_bytes d) (report_bytes ds) r) (decoded-back d (report_bytes ds ++ r) (f.each d (Memᴰ.head refl)))
report-back (d ∷ ds) r (suc i) e f h =
    let n : diagnostic_size * suc i ≡ length (diagnostic_bytes d) + diagnostic_size * i = rw (diagnostic_bytes-length d) (omega (arith, mul-suc diagnostic_size i)) in
    rw (append_assoc (diagnostic_bytes d) (report_bytes ds) r, n)
    (decoded-behind (diagnostic_bytes d) (report_bytes ds ++ r) (diagnostic_size * i)
    ∙ report-back ds r i e (record { each = λ x m. f.each x (Memᴰ.tail m) }) (omega arith))
