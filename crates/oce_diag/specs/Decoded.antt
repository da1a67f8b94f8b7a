-- The diagnostics that a report's bytes stand for. FORMAT 7. Numbers that no diagnostic has are read as some diagnostic's.
use Rattle.std.specs.Prelude.{ℕ, ◌+◌, ◌*◌, ◌<◌, cond, eqb}
use mathlib.Core.List.{List, Memᴰ}
use Rattle.numbers.specs.Bytes.{word_range, byte, le32}
use Rattle.oce_diag.specs.Diagnostics.{connector_id, block_id, diagnostic}
use Rattle.oce_diag.specs.Encoding.{diagnostic_size, severity_number, code_number, text_subject_kind, connector_subject_kind, block_subject_kind, subject_number, severity_place, code_place, rule_place, detail_place, subject_kind_place, subject_number_place, place_place}
use Rattle.oce_diag.specs.declared.Severity.{Severity}
use Rattle.oce_diag.specs.declared.Severity.TheVariants.{Error, Warning}
use Rattle.oce_diag.specs.declared.DiagCode.{DiagCode}
use Rattle.oce_diag.specs.declared.DiagCode.TheVariants.{MalformedDocument, DirectionMismatch, SingleAssignment, TypeMismatch, UnitQuantityMismatch, BoundMismatch, CrossedBounds, DisplayUnitDivergence}
use Rattle.oce_diag.specs.declared.Subject.{Subject}
use Rattle.oce_diag.specs.declared.Subject.TheVariants.{Nothing, Text, Connector, Block}
use Rattle.oce_diag.specs.declared.Diagnostic.{Diagnostic}

-- the severity, the code and the subject that have the given numbers
unfoldable pub severity_of : ℕ → Severity
severity_of n = cond (eqb n (severity_number Error)) Error Warning

unfoldable pub code_of : ℕ → DiagCode
code_of n =
    cond (eqb n (code_number MalformedDocument)) MalformedDocument
    (cond (eqb n (code_number DirectionMismatch)) DirectionMismatch
    (cond (eqb n (code_number SingleAssignment)) SingleAssignment
    (cond (eqb n (code_number TypeMismatch)) TypeMismatch
    (cond (eqb n (code_number UnitQuantityMismatch)) UnitQuantityMismatch
    (cond (eqb n (code_number BoundMismatch)) BoundMismatch
    (cond (eqb n (code_number CrossedBounds)) CrossedBounds DisplayUnitDivergence))))))

unfoldable pub subject_from : ℕ → ℕ → Subject
subject_from kind number =
    cond (eqb kind text_subject_kind) (Text number)
    (cond (eqb kind connector_subject_kind) (Connector (connector_id number))
    (cond (eqb kind block_subject_kind) (Block (block_id number)) Nothing))

-- the diagnostic whose bytes begin at an offset
unfoldable pub decoded_at : List ℕ → ℕ → Diagnostic
decoded_at b at =
    diagnostic (severity_of (byte b (at + severity_place))) (code_of (byte b (at + code_place))) (byte b (at + rule_place)) (byte b (at + detail_place))
    (subject_from (byte b (at + subject_kind_place)) (le32 b (at + subject_number_place))) (le32 b (at + place_place))

-- diagnostic i of a report
unfoldable pub diagnostic_at : List ℕ → ℕ → Diagnostic
diagnostic_at b i = decoded_at b (diagnostic_size * i)

-- its numbers have room in its bytes
pub record Fitting (d : Diagnostic) : Type 0 where
  pub number : subject_number d.subject < word_range
  pub place : d.place < word_range

-- so have those of all
pub record AllFitting (ds : List Diagnostic) : Type 0 where
  pub each : (d : Diagnostic) → Memᴰ d ds → Fitting d
