-- The bytes of a report. FORMAT 7 and 8.
use Rattle.std.specs.Prelude.{ℕ, ◌+◌, List, [], ◌∷◌, ◌++◌}
use Rattle.numbers.specs.Bytes.{le_bytes}
use Rattle.oce_model.specs.Format.{leading_bytes}
use Rattle.oce_diag.specs.declared.Severity.{Severity}
use Rattle.oce_diag.specs.declared.Severity.TheVariants.{Error, Warning}
use Rattle.oce_diag.specs.declared.DiagCode.{DiagCode}
use Rattle.oce_diag.specs.declared.DiagCode.TheVariants.{MalformedDocument, DirectionMismatch, SingleAssignment, TypeMismatch, UnitQuantityMismatch, BoundMismatch, CrossedBounds, DisplayUnitDivergence}
use Rattle.oce_diag.specs.declared.Subject.{Subject}
use Rattle.oce_diag.specs.declared.Subject.TheVariants.{Nothing, Text, Connector, Block}
use Rattle.oce_diag.specs.declared.Diagnostic.{Diagnostic}

-- the tag of a diagnostic's field
abbrev pub diagnostic_tag : ℕ
diagnostic_tag = 0x20

-- the bytes of a diagnostic's contents, and of all of it
abbrev pub diagnostic_length : ℕ
diagnostic_length = 16

abbrev pub diagnostic_size : ℕ
diagnostic_size = leading_bytes + diagnostic_length

-- the numbers of severities and codes
abbrev pub severity_number : Severity → ℕ
severity_number Error = 0
severity_number Warning = 1

abbrev pub code_number : DiagCode → ℕ
code_number MalformedDocument = 1
code_number DirectionMismatch = 2
code_number SingleAssignment = 3
code_number TypeMismatch = 4
code_number UnitQuantityMismatch = 5
code_number BoundMismatch = 6
code_number CrossedBounds = 7
code_number DisplayUnitDivergence = 8

-- subject kinds: none, a text, a connector, a block
abbrev pub no_subject_kind : ℕ
no_subject_kind = 0

abbrev pub text_subject_kind : ℕ
text_subject_kind = 1

abbrev pub connector_subject_kind : ℕ
connector_subject_kind = 2

abbrev pub block_subject_kind : ℕ
block_subject_kind = 3

-- the number of a subject's kind
abbrev pub subject_kind : Subject → ℕ
subject_kind Nothing = no_subject_kind
subject_kind (Text t) = text_subject_kind
subject_kind (Connector i) = connector_subject_kind
subject_kind (Block i) = block_subject_kind

-- a text's number or an id, 0 for no subject
abbrev pub subject_number : Subject → ℕ
subject_number Nothing = 0
subject_number (Text t) = t
subject_number (Connector i) = i.0
subject_number (Block i) = i.0

-- where the parts of a diagnostic stand, from its first byte
abbrev pub severity_place : ℕ
severity_place = leading_bytes

abbrev pub code_place : ℕ
code_place = severity_place + 1

abbrev pub rule_place : ℕ
rule_place = code_place + 1

abbrev pub detail_place : ℕ
detail_place = rule_place + 1

abbrev pub subject_kind_place : ℕ
subject_kind_place = detail_place + 1

abbrev pub subject_number_place : ℕ
subject_number_place = subject_kind_place + 4

abbrev pub place_place : ℕ
place_place = subject_number_place + 4

-- a diagnostic's bytes: tag, length, severity, code, rule, detail, subject kind, three zero bytes, subject number, place
unfoldable pub diagnostic_bytes : Diagnostic → List ℕ
diagnostic_bytes d =
    diagnostic_tag ∷ le_bytes 2 diagnostic_length
    ++ severity_number d.severity ∷ code_number d.code ∷ d.rule ∷ d.detail ∷ subject_kind d.subject ∷ 0 ∷ 0 ∷ 0
    ∷ le_bytes 4 (subject_number d.subject) ++ le_bytes 4 d.place

-- a report's: one diagnostic after the other
unfoldable pub report_bytes : List Diagnostic → List ℕ
report_bytes [] = []
report_bytes (d ∷ ds) = diagnostic_bytes d ++ report_bytes ds
