-- Subjects of the image of 78 bytes, and the texts that they shall have. FORMAT 8.
use Rattle.std.specs.Prelude.{ℕ, List, [], ◌∷◌, length}
use Rattle.oce_model.specs.Examples.{image78}
use Rattle.oce_diag.specs.Encoding.{text_subject_kind, connector_subject_kind, block_subject_kind}
use Rattle.subject.specs.Subject.{subject_text}

-- a subject's kind and number, and its text
pub record Case : Type 0 where
  pub kind : ℕ
  pub number : ℕ
  pub text : List ℕ

abbrev pub case : ℕ → ℕ → List ℕ → Case
case kind number text = record { kind = kind; number = number; text = text }

unfoldable pub cases : List Case
cases =
    -- `u`
    case text_subject_kind 0 (0x75 ∷ [])
    -- no such text
    ∷ case text_subject_kind 1 []
    -- `connector#0`
    ∷ case connector_subject_kind 0 (0x63 ∷ 0x6F ∷ 0x6E ∷ 0x6E ∷ 0x65 ∷ 0x63 ∷ 0x74 ∷ 0x6F ∷ 0x72 ∷ 0x23 ∷ 0x30 ∷ [])
    -- `block#4294967295`
    ∷ case block_subject_kind 4294967295
    (0x62 ∷ 0x6C ∷ 0x6F ∷ 0x63 ∷ 0x6B ∷ 0x23 ∷ 0x34 ∷ 0x32 ∷ 0x39 ∷ 0x34 ∷ 0x39 ∷ 0x36 ∷ 0x37 ∷ 0x32 ∷ 0x39 ∷ 0x35 ∷ [])
    -- no subject, and another kind
    ∷ case 0 0 []
    ∷ case 4 0 []
    ∷ []

-- the text that a case has by the definitions, and the one that it shall have
abbrev pub found : Case → List ℕ
found c = subject_text image78 c.kind c.number

abbrev pub wanted : Case → List ℕ
wanted c = c.text

-- the longest of them: `connector#4294967295`
abbrev pub longest : ℕ
longest = length (subject_text image78 connector_subject_kind 4294967295)
