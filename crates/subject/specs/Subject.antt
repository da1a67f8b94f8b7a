-- A subject's text, FORMAT 8: a part of the image, or of the caller's scratch for `connector#` and `block#`. A subject is given by its kind and number, as a diagnostic's
-- bytes have them.
use Rattle.std.specs.Prelude.{ℕ, cond, List, [], ◌∷◌, ◌++◌, eqb, ltb, length, take}
use Rattle.std.specs.Prelude.{Option, Some, None}
use Rattle.base.specs.Buffers.{starts_with}
use Rattle.oce_model.specs.Model.{model_of, text}
use Rattle.oce_model.specs.Refusals.{refusal}
use Rattle.oce_model.specs.declared.Refusal.{Refusal}
use Rattle.oce_diag.specs.Encoding.{text_subject_kind, connector_subject_kind, block_subject_kind, subject_kind, subject_number}
use Rattle.oce_diag.specs.declared.Subject.{Subject}
use Rattle.decimal.specs.Decimal.{decimal}

-- `connector#` and `block#`
abbrev pub connector_label : List ℕ
connector_label = 0x63 ∷ 0x6F ∷ 0x6E ∷ 0x6E ∷ 0x65 ∷ 0x63 ∷ 0x74 ∷ 0x6F ∷ 0x72 ∷ 0x23 ∷ []

abbrev pub block_label : List ℕ
block_label = 0x62 ∷ 0x6C ∷ 0x6F ∷ 0x63 ∷ 0x6B ∷ 0x23 ∷ []

-- `connector#` or `block#` and an id in decimal; another kind has no such text
unfoldable pub labelled : ℕ → ℕ → List ℕ
labelled kind number =
    cond (eqb kind connector_subject_kind) (connector_label ++ decimal number)
    (cond (eqb kind block_subject_kind) (block_label ++ decimal number) [])

-- the same of a subject
abbrev pub label : Subject → List ℕ
label x = labelled (subject_kind x) (subject_number x)

-- an image that refusals 1 to 8 turn away gives none
abbrev pub unless_refused : Option Refusal → List ℕ → List ℕ
unless_refused None bs = bs
unless_refused (Some r) bs = []

-- the text of a subject: a text's bytes in the image, or a label and an id; none for no subject, for another kind and for a text number out of range
unfoldable pub subject_text : List ℕ → ℕ → ℕ → List ℕ
subject_text s kind number = unless_refused (refusal s) (cond (eqb kind text_subject_kind) (text (model_of s) number) (labelled kind number))

-- the longest label and id take so many bytes: with fewer of scratch nothing is written, and the part is empty
abbrev pub least_scratch : ℕ
least_scratch = 20

unfoldable pub if_room : List ℕ → List ℕ → List ℕ
if_room scratch bs = cond (ltb (length scratch) least_scratch) [] bs

-- what the call that writes writes, and the scratch after it
unfoldable pub written : List ℕ → ℕ → ℕ → List ℕ → List ℕ
written s kind number scratch = unless_refused (refusal s) (if_room scratch (labelled kind number))

unfoldable pub scratch_after : List ℕ → ℕ → ℕ → List ℕ → List ℕ
scratch_after s kind number scratch = starts_with (written s kind number scratch) scratch

-- the part that the call that reads hands out, of an accepted image or of the scratch; and for any image
unfoldable pub part_of : List ℕ → List ℕ → ℕ → ℕ → List ℕ
part_of s scratch kind number =
    cond (eqb kind text_subject_kind) (text (model_of s) number) (take (length (if_room scratch (labelled kind number))) scratch)

unfoldable pub part : List ℕ → List ℕ → ℕ → ℕ → List ℕ
part s scratch kind number = unless_refused (refusal s) (part_of s scratch kind number)
