-- Stored diagnostics beside those of a report: docs/STORED_ANSWERS.md has their form, 16 bytes and the subject's text. Bytes past the file's end
-- count as 0.
use Rattle.std.specs.Prelude.{ℕ, suc, ◌+◌, ◌-◌, ◌<◌, ◌≤◌, ◌≡◌, Bool, cond, not, ◌&&◌, ◌||◌, List, [], ◌∷◌, eqb, ltb, length, take, drop, Result, Ok, Err}
use Rattle.base.specs.Lists.{steps, same}
use Rattle.numbers.specs.Bytes.{word_range, byte, le16, le32, bit}
use Rattle.oce_diag.specs.Encoding.{diagnostic_length, severity_number, code_number, subject_kind, subject_number, severity_place, code_place, rule_place, detail_place, subject_kind_place, subject_number_place, place_place}
use Rattle.oce_diag.specs.Decoded.{diagnostic_at}
use Rattle.oce_diag.specs.declared.Subject.{Subject}
use Rattle.oce_diag.specs.declared.Diagnostic.{Diagnostic}
use Rattle.subject.specs.Subject.{subject_text}

-- where the parts stand, from the severity on: as in a report, with what is told and the length of the subject's text for the zero bytes; then the text
abbrev pub code_at : ℕ
code_at = code_place - severity_place

abbrev pub rule_at : ℕ
rule_at = rule_place - severity_place

abbrev pub detail_at : ℕ
detail_at = detail_place - severity_place

abbrev pub kind_at : ℕ
kind_at = subject_kind_place - severity_place

abbrev pub told_at : ℕ
told_at = kind_at + 1

abbrev pub text_length_at : ℕ
text_length_at = told_at + 1

abbrev pub number_at : ℕ
number_at = subject_number_place - severity_place

abbrev pub place_at : ℕ
place_at = place_place - severity_place

abbrev pub text_at : ℕ
text_at = diagnostic_length

-- the bits of what is told: the subject number, the place
abbrev pub number_bit : ℕ
number_bit = 0

abbrev pub place_bit : ℕ
place_bit = 1

-- ---- one: the stored diagnostic at an offset of the file f, beside d, a diagnostic of the image s

-- severity, code, rule, detail and subject kind are the same
unfoldable pub same_fields : List ℕ → ℕ → Diagnostic → Bool
same_fields f at d =
    eqb (byte f at) (severity_number d.severity)
    && eqb (byte f (at + code_at)) (code_number d.code)
    && eqb (byte f (at + rule_at)) d.rule
    && eqb (byte f (at + detail_at)) d.detail
    && eqb (byte f (at + kind_at)) (subject_kind d.subject)

-- subject number and place are, where the file tells them
unfoldable pub same_numbers : List ℕ → ℕ → Diagnostic → Bool
same_numbers f at d =
    (not (bit (byte f (at + told_at)) number_bit) || eqb (le32 f (at + number_at)) (subject_number d.subject))
    && (not (bit (byte f (at + told_at)) place_bit) || eqb (le32 f (at + place_at)) d.place)

-- the subject's text is
unfoldable pub same_subject : List ℕ → ℕ → List ℕ → Subject → Bool
same_subject f at s x = same (subject_text s (subject_kind x) (subject_number x)) (take (le16 f (at + text_length_at)) (drop (at + text_at) f))

unfoldable pub agrees : List ℕ → ℕ → List ℕ → Diagnostic → Bool
agrees f at s d = same_fields f at d && same_numbers f at d && same_subject f at s d.subject

-- ---- all of them, in their order

-- where the stored diagnostic behind the one at an offset begins
abbrev pub behind : List ℕ → ℕ → ℕ
behind f at = at + (text_at + le16 f (at + text_length_at))

-- where stored diagnostic n begins, if the first begins at an offset
unfoldable pub place_of : List ℕ → ℕ → ℕ → ℕ
place_of f at n = steps n (λ i x. behind f x) at

-- how many diagnostics agree with the stored ones, which begin at an offset, up to the first that doesn't
unfoldable pub alike : List ℕ → ℕ → List ℕ → List Diagnostic → ℕ
alike f at s [] = 0
alike f at s (d ∷ ds) = cond (agrees f at s d) (suc (alike f (behind f at) s ds)) 0

-- where the stored diagnostics end, if all agree; else which is the first that differs
unfoldable pub compared : List ℕ → ℕ → List ℕ → List Diagnostic → Result ℕ ℕ
compared f at s ds = let n = alike f at s ds in cond (ltb n (length ds)) (Err n) (Ok (place_of f at n))

-- the diagnostics are those of a report's bytes
pub record Reported (ds : List Diagnostic) (report : List ℕ) : Type 0 where
  pub few : length ds < word_range
  pub next : (n : ℕ) → n < length ds → drop n ds ≡ diagnostic_at report n ∷ drop (suc n) ds

-- n of them agree, and the next stored one begins at an offset
pub record Agreed (f : List ℕ) (start : ℕ) (s : List ℕ) (ds : List Diagnostic) (at n : ℕ) : Type 0 where
  pub within : n ≤ length ds
  pub same : alike f start s ds ≡ n + alike f at s (drop n ds)
  pub place : at ≡ place_of f start n
