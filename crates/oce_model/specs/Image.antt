-- The fields of an image, which are walked by their lengths alone. FORMAT 2.
use Rattle.std.specs.Prelude.{ℕ, zero, suc, ◌+◌, Bool, cond, List, [], ◌∷◌, length, eqb, leb}
use Rattle.std.specs.Prelude.{Option, Some, None}
use Rattle.base.specs.Lists.{keep}
use Rattle.numbers.specs.Bytes.{byte, le16}
use Rattle.oce_model.specs.Format.{leading_bytes, field_length_at}
pub use Rattle.oce_model.specs.declared.Field.{Field}

-- where the field at an offset ends. Bytes past the image's end read as 0, so a field whose leading bytes run past it ends past it too
unfoldable pub field_end : List ℕ → ℕ → ℕ
field_end s at = at + leading_bytes + le16 s (at + field_length_at)

-- the field at an offset, behind one with the tag prev (0: none), with ord fields of its tag right before it
unfoldable pub field_at : List ℕ → ℕ → ℕ → ℕ → Field
field_at s at prev ord = record { at = at; tag = byte s at; len = le16 s (at + field_length_at); prev = prev; ord = ord }

-- how many fields with the tag t stand right before a field of that tag, where n fields with the tag prev do
abbrev pub ord_of : ℕ → ℕ → ℕ → ℕ
ord_of prev n t = cond (eqb prev t) n 0

-- The fields from an offset on, up to the first that runs past the end; n fields with the tag prev stand right before.
-- A field has at least three bytes, so the first number, at the start the image's length, is never used up.
unfoldable pub fields_from : ℕ → List ℕ → ℕ → ℕ → ℕ → List Field
fields_from zero s at prev n = []
fields_from (suc k) s at prev n =
    let o = ord_of prev n (byte s at) in
    let rest = fields_from k s (field_end s at) (byte s at) (suc o) in
    cond (leb (field_end s at) (length s)) (field_at s at prev o ∷ rest) []

-- the fields of an image
unfoldable pub fields : List ℕ → List Field
fields s = fields_from (length s) s 0 0 0

-- where the fields from an offset on stop; the first number as above
unfoldable pub stop_from : ℕ → List ℕ → ℕ → ℕ
stop_from zero s at = at
stop_from (suc k) s at =
    let rest = stop_from k s (field_end s at) in
    cond (leb (field_end s at) (length s)) rest at

-- the offset at which the fields stop: the image's length, or the offset of the first field that runs past it
unfoldable pub stop : List ℕ → ℕ
stop s = stop_from (length s) s 0

-- the fields with a tag
unfoldable pub of_tag : ℕ → List Field → List Field
of_tag t fs = keep (λ f. eqb f.tag t) fs

-- the offset of the first field that passes a test
unfoldable pub first : (Field → Bool) → List Field → Option ℕ
first p [] = None
first p (f ∷ fs) = let t = first p fs in cond (p f) (Some f.at) t

-- an offset, or else n
abbrev pub or_end : Option ℕ → ℕ → ℕ
or_end None n = n
or_end (Some at) n = at

-- where the records of tag t begin: the offset of the first field with a tag from t on, the image's length if there is none
unfoldable pub start_of : ℕ → List ℕ → ℕ
start_of t s = or_end (first (λ f. leb t f.tag) (fields s)) (length s)
