-- Files of stored answers, as docs/STORED_ANSWERS.md has them.
use Rattle.std.specs.Prelude.{ℕ, ◌+◌, Bool, not, ◌&&◌, cond, List, eqb, leb, length, Option, Some, None, Result, Ok, Err}
use Rattle.numbers.specs.Bytes.{byte, le32}
use Rattle.oce_model.specs.declared.Refusal.{Refusal}
use Rattle.stored.specs.declared.Results.{Results}
use Rattle.stored.specs.declared.Answer.{Answer}
use Rattle.stored.specs.declared.Record.{Record}

-- ---- a file: magic, version, number of records, then the records

-- 4F 43 45 41, the low byte first
abbrev pub magic : ℕ
magic = 0x4145434F

abbrev pub version : ℕ
version = 1

abbrev pub version_at : ℕ
version_at = 4

abbrev pub count_at : ℕ
count_at = 8

unfoldable pub is_stored : List ℕ → Bool
is_stored s = eqb (le32 s 0) magic && eqb (le32 s version_at) version

-- ---- a record: the length of the rest, the length of the image, the image, the answer

-- where the image's length and the image stand
abbrev pub length_at : ℕ
length_at = 4

abbrev pub image_at : ℕ
image_at = 8

-- where the parts of an answer stand, and its bytes before its diagnostics
abbrev pub told_at : ℕ
told_at = 1

abbrev pub offset_at : ℕ
offset_at = 4

abbrev pub errors_at : ℕ
errors_at = 8

abbrev pub warnings_at : ℕ
warnings_at = 12

abbrev pub filled_at : ℕ
filled_at = 16

abbrev pub answer_length : ℕ
answer_length = 20

-- what an answer says: an image is accepted, with its results where they are told, or refused; number 0 is no refusal
abbrev pub said : Answer → Result (Option Results) Refusal
said a = cond (eqb a.refusal.number 0) (Ok (cond a.told (Some a.results) None)) (Err a.refusal)

-- the results in the answer at an offset
unfoldable pub results_at : List ℕ → ℕ → Results
results_at s at = record {
  counted = record { errors = le32 s (at + errors_at); warnings = le32 s (at + warnings_at) };
  filled = le32 s (at + filled_at);
  diagnostics = at + answer_length;
}

-- the answer at an offset
unfoldable pub answer_at : List ℕ → ℕ → Answer
answer_at s at = record {
  refusal = record { number = byte s at; offset = le32 s (at + offset_at) };
  told = not (eqb (byte s (at + told_at)) 0);
  results = results_at s at;
}

-- the record at an offset, with rest bytes behind its length, len of them the image
unfoldable pub placed : List ℕ → ℕ → ℕ → ℕ → Record
placed s at rest len = record { image = at + image_at; len = len; answer = answer_at s (at + image_at + len); end = at + length_at + rest }

-- it lies in the file, and image and answer lie in it
unfoldable pub fits : List ℕ → ℕ → ℕ → ℕ → Bool
fits s at rest len = leb (at + length_at + rest) (length s) && leb (length_at + len + answer_length) rest

-- the record at an offset, if it fits
unfoldable pub record_at : List ℕ → ℕ → Option Record
record_at s at = cond (fits s at (le32 s at) (le32 s (at + length_at))) (Some (placed s at (le32 s at) (le32 s (at + length_at)))) None
