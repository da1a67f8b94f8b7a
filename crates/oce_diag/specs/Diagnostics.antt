-- Diagnostics and their subjects. FORMAT 7 and 8.
use Rattle.std.specs.Prelude.{ℕ, Bool, true, false, cond, not, List, eqb, length}
use Rattle.base.specs.Lists.{any, keep}
use Rattle.oce_model.specs.Format.{no_text}
use Rattle.oce_model.specs.Model.{Block, Connector}
use Rattle.oce_model.specs.declared.BlockId.{BlockId}
use Rattle.oce_model.specs.declared.ConnectorId.{ConnectorId}
use Rattle.oce_diag.specs.declared.Severity.{Severity}
use Rattle.oce_diag.specs.declared.Severity.TheVariants.{Error, Warning}
use Rattle.oce_diag.specs.declared.DiagCode.{DiagCode}
use Rattle.oce_diag.specs.declared.Subject.{Subject}
use Rattle.oce_diag.specs.declared.Subject.TheVariants.{Text, Connector as OfConnector, Block as OfBlock}
use Rattle.oce_diag.specs.declared.Diagnostic.{Diagnostic}

-- `ConnectorId` and `BlockId`: a connector's and a block's id, by its number
abbrev pub connector_id : ℕ → ConnectorId
connector_id n = record { 0 = n }

abbrev pub block_id : ℕ → BlockId
block_id n = record { 0 = n }

-- `subject_of`: the iri text, or else the connector by its id
unfoldable pub connector_subject : ℕ → ConnectorId → Subject
connector_subject iri id = cond (eqb iri no_text) (OfConnector id) (Text iri)

-- a connector's subject
unfoldable pub subject_of : Connector → Subject
subject_of c = connector_subject c.iri (connector_id c.id)

-- `block_subject_of`: the instance text, or else the block by its id
unfoldable pub block_subject : ℕ → BlockId → Subject
block_subject instance id = cond (eqb instance no_text) (OfBlock id) (Text instance)

-- a block's subject
unfoldable pub block_subject_of : Block → Subject
block_subject_of b = block_subject b.instance_iri (block_id b.id)

-- a diagnostic of its parts
unfoldable pub diagnostic : Severity → DiagCode → ℕ → ℕ → Subject → ℕ → Diagnostic
diagnostic severity code rule detail subject place = record {
  severity = severity;
  code = code;
  rule = rule;
  detail = detail;
  subject = subject;
  place = place;
}

-- `Diagnostic::error` and `Diagnostic::warning`: code, rule, detail, subject, place
abbrev pub error : DiagCode → ℕ → ℕ → Subject → ℕ → Diagnostic
error = diagnostic Error

abbrev pub warning : DiagCode → ℕ → ℕ → Subject → ℕ → Diagnostic
warning = diagnostic Warning

-- `Severity::is_error`
abbrev pub is_error_severity : Severity → Bool
is_error_severity Error = true
is_error_severity Warning = false

-- the diagnostic is an error
abbrev pub is_error : Diagnostic → Bool
is_error d = is_error_severity d.severity

-- the list holds an error
unfoldable pub has_error : List Diagnostic → Bool
has_error ds = any is_error ds

-- the two numbers of an answer: of errors and of warnings. FORMAT 1
unfoldable pub errors : List Diagnostic → ℕ
errors ds = length (keep is_error ds)

unfoldable pub warnings : List Diagnostic → ℕ
warnings ds = length (keep (λ d. not (is_error d)) ds)
