-- The printed report, FORMAT 19.
use Rattle.std.specs.Prelude.{ℕ, ◌+◌, List, [], ◌∷◌, ◌++◌, length, Ok, Err}
use Rattle.base.specs.Lists.{each}
use Rattle.oce_model.specs.Format.{longest_text}
use Rattle.oce_diag.specs.declared.Severity.{Severity}
use Rattle.oce_diag.specs.declared.Severity.TheVariants.{Error, Warning}
use Rattle.oce_diag.specs.declared.DiagCode.{DiagCode}
use Rattle.oce_diag.specs.declared.DiagCode.TheVariants.{MalformedDocument, DirectionMismatch, SingleAssignment, TypeMismatch, UnitQuantityMismatch, BoundMismatch, CrossedBounds, DisplayUnitDivergence}
use Rattle.oce_diag.specs.declared.Subject.{Subject}
use Rattle.oce_diag.specs.declared.Subject.TheVariants.{Nothing, Text, Connector, Block}
use Rattle.oce_diag.specs.declared.Diagnostic.{Diagnostic}
use Rattle.decimal.specs.Decimal.{decimal, most_digits, most_byte_digits}
use Rattle.oce_diag.specs.Encoding.{text_subject_kind, connector_subject_kind, block_subject_kind}
use Rattle.subject.specs.Subject.{subject_text}
use Rattle.oce_diag.specs.Decoded.{diagnostic_at}
use Rattle.outcome.specs.Answer.{Answer, report_of}

-- ---- words and signs as bytes

-- a space, `.`, `-`, and 0x0A
abbrev pub space : List ℕ
space = 0x20 ∷ []

abbrev pub dot : List ℕ
dot = 0x2E ∷ []

abbrev pub dash : List ℕ
dash = 0x2D ∷ []

abbrev pub newline : List ℕ
newline = 0x0A ∷ []

-- `errors `, ` warnings `, `refused ` and ` at `
abbrev pub errors_label : List ℕ
errors_label = 0x65 ∷ 0x72 ∷ 0x72 ∷ 0x6F ∷ 0x72 ∷ 0x73 ∷ 0x20 ∷ []

abbrev pub warnings_label : List ℕ
warnings_label = 0x20 ∷ 0x77 ∷ 0x61 ∷ 0x72 ∷ 0x6E ∷ 0x69 ∷ 0x6E ∷ 0x67 ∷ 0x73 ∷ 0x20 ∷ []

abbrev pub refused_label : List ℕ
refused_label = 0x72 ∷ 0x65 ∷ 0x66 ∷ 0x75 ∷ 0x73 ∷ 0x65 ∷ 0x64 ∷ 0x20 ∷ []

abbrev pub at_label : List ℕ
at_label = 0x20 ∷ 0x61 ∷ 0x74 ∷ 0x20 ∷ []

-- `error` and `warning`
unfoldable pub severity_name : Severity → List ℕ
severity_name Error = 0x65 ∷ 0x72 ∷ 0x72 ∷ 0x6F ∷ 0x72 ∷ []
severity_name Warning = 0x77 ∷ 0x61 ∷ 0x72 ∷ 0x6E ∷ 0x69 ∷ 0x6E ∷ 0x67 ∷ []

-- a code's own name
unfoldable pub code_name : DiagCode → List ℕ
code_name MalformedDocument = 0x4D ∷ 0x61 ∷ 0x6C ∷ 0x66 ∷ 0x6F ∷ 0x72 ∷ 0x6D ∷ 0x65 ∷ 0x64 ∷ 0x44 ∷ 0x6F ∷ 0x63 ∷ 0x75 ∷ 0x6D ∷ 0x65 ∷ 0x6E ∷ 0x74 ∷ []
code_name DirectionMismatch = 0x44 ∷ 0x69 ∷ 0x72 ∷ 0x65 ∷ 0x63 ∷ 0x74 ∷ 0x69 ∷ 0x6F ∷ 0x6E ∷ 0x4D ∷ 0x69 ∷ 0x73 ∷ 0x6D ∷ 0x61 ∷ 0x74 ∷ 0x63 ∷ 0x68 ∷ []
code_name SingleAssignment = 0x53 ∷ 0x69 ∷ 0x6E ∷ 0x67 ∷ 0x6C ∷ 0x65 ∷ 0x41 ∷ 0x73 ∷ 0x73 ∷ 0x69 ∷ 0x67 ∷ 0x6E ∷ 0x6D ∷ 0x65 ∷ 0x6E ∷ 0x74 ∷ []
code_name TypeMismatch = 0x54 ∷ 0x79 ∷ 0x70 ∷ 0x65 ∷ 0x4D ∷ 0x69 ∷ 0x73 ∷ 0x6D ∷ 0x61 ∷ 0x74 ∷ 0x63 ∷ 0x68 ∷ []
code_name UnitQuantityMismatch = 0x55 ∷ 0x6E ∷ 0x69 ∷ 0x74 ∷ 0x51 ∷ 0x75 ∷ 0x61 ∷ 0x6E ∷ 0x74 ∷ 0x69 ∷ 0x74 ∷ 0x79 ∷ 0x4D ∷ 0x69 ∷ 0x73 ∷ 0x6D ∷ 0x61 ∷ 0x74 ∷ 0x63 ∷ 0x68 ∷ []
code_name BoundMismatch = 0x42 ∷ 0x6F ∷ 0x75 ∷ 0x6E ∷ 0x64 ∷ 0x4D ∷ 0x69 ∷ 0x73 ∷ 0x6D ∷ 0x61 ∷ 0x74 ∷ 0x63 ∷ 0x68 ∷ []
code_name CrossedBounds = 0x43 ∷ 0x72 ∷ 0x6F ∷ 0x73 ∷ 0x73 ∷ 0x65 ∷ 0x64 ∷ 0x42 ∷ 0x6F ∷ 0x75 ∷ 0x6E ∷ 0x64 ∷ 0x73 ∷ []
code_name DisplayUnitDivergence = 0x44 ∷ 0x69 ∷ 0x73 ∷ 0x70 ∷ 0x6C ∷ 0x61 ∷ 0x79 ∷ 0x55 ∷ 0x6E ∷ 0x69 ∷ 0x74 ∷ 0x44 ∷ 0x69 ∷ 0x76 ∷ 0x65 ∷ 0x72 ∷ 0x67 ∷ 0x65 ∷ 0x6E ∷ 0x63 ∷ 0x65 ∷ []

-- ---- lines

-- a subject's text, `-` where there is none
unfoldable pub subject_field : List ℕ → Subject → List ℕ
subject_field s Nothing = dash
subject_field s (Text t) = subject_text s text_subject_kind t
subject_field s (Connector i) = subject_text s connector_subject_kind i.0
subject_field s (Block i) = subject_text s block_subject_kind i.0

-- a diagnostic's fields, a space before each but the first
abbrev pub names : Severity → DiagCode → List ℕ
names severity code = severity_name severity ++ space ++ code_name code

abbrev pub rule_and_detail : ℕ → ℕ → List ℕ
rule_and_detail rule detail = (space ++ decimal rule) ++ (dot ++ decimal detail)

abbrev pub line_end : List ℕ → Subject → List ℕ
line_end s subject = space ++ subject_field s subject ++ newline

-- the line of a diagnostic
unfoldable pub line : List ℕ → Diagnostic → List ℕ
line s d = names d.severity d.code ++ rule_and_detail d.rule d.detail ++ (space ++ decimal d.place) ++ line_end s d.subject

unfoldable pub lines : List ℕ → List Diagnostic → List ℕ
lines s [] = []
lines s (d ∷ ds) = line s d ++ lines s ds

-- a refusal: its number, and the digits of its offset
abbrev pub refused_line : ℕ → List ℕ → List ℕ
refused_line number digits = (refused_label ++ decimal number) ++ (at_label ++ digits) ++ newline

-- the first line: the counts, or a refusal's number and offset, and then no other line
unfoldable pub first_line : Answer → List ℕ
first_line (Ok c) = (errors_label ++ decimal c.errors) ++ (warnings_label ++ decimal c.warnings) ++ newline
first_line (Err r) = refused_line r.number (decimal r.offset)

-- all that is printed for an image and its answer
unfoldable pub printed : List ℕ → Answer → List ℕ
printed s (Ok c) = first_line (Ok c) ++ lines s (report_of s)
printed s (Err r) = first_line (Err r)

-- the lines of k diagnostics of a report's bytes, from the one with number `from` on
unfoldable pub lines_from : List ℕ → List ℕ → ℕ → ℕ → List ℕ
lines_from s report from k = each k (λ i. line s (diagnostic_at report (from + i)))

-- ---- lengths

-- of `warning`, of `DisplayUnitDivergence`
abbrev pub longest_severity : ℕ
longest_severity = 7

abbrev pub longest_code : ℕ
longest_code = 21

abbrev pub longest_names : ℕ
longest_names = longest_severity + 1 + longest_code

abbrev pub longest_rule : ℕ
longest_rule = 1 + most_byte_digits + 1 + most_byte_digits

abbrev pub longest_end : ℕ
longest_end = 1 + longest_text + 1

-- no line is longer, whatever the numbers of a diagnostic
abbrev pub longest_line : ℕ
longest_line = longest_names + longest_rule + (1 + most_digits) + longest_end

-- a refusal's line, whose offset has at most so many digits
abbrev pub longest_refused : ℕ → ℕ
longest_refused most = length refused_label + most_digits + length at_label + most + length newline
