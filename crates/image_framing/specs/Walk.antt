-- The fields of an image, one after the other, as a loop goes through them. FORMAT 2.
use Rattle.std.specs.Prelude.{ℕ, ◌+◌, ◌≤◌, ◌≡◌, Bool, cond, List, [], ◌∷◌, ◌≢◌, leb, ltb, length, Option, None, Some, Result, Ok, Err}
use Rattle.numbers.specs.Bytes.{byte, le16}
use Rattle.oce_model.specs.Format.{leading_bytes, field_length_at}
use Rattle.oce_model.specs.Image.{field_end, ord_of, fields, fields_from, stop, first}
use Rattle.oce_model.specs.Refusals.{bad_tag}
use Rattle.oce_model.specs.declared.Field.{Field}
use Rattle.image_framing.specs.declared.Leading.{Leading}

-- ---- one field

-- what stands at an offset: a field's tag and length, and whether all of it lies in the image
abbrev pub leading_at : List ℕ → ℕ → Leading
leading_at s at = record { tag = byte s at; len = le16 s (at + field_length_at); whole = leb (field_end s at) (length s) }

-- the same, where all of the field lies in the image
abbrev pub whole_at : List ℕ → ℕ → Option Leading
whole_at s at = cond (leb (field_end s at) (length s)) (Some (leading_at s at)) None

-- the field at an offset where these leading bytes stand, behind n fields with the tag prev
abbrev pub field_of : Leading → ℕ → ℕ → ℕ → Field
field_of l at prev n = record { at = at; tag = l.tag; len = l.len; prev = prev; ord = ord_of prev n l.tag }

-- where a field ends
abbrev pub end_of : Field → ℕ
end_of f = f.at + leading_bytes + f.len

-- ---- what is left

-- the fields from an offset on, behind n fields with the tag prev
unfoldable pub rest_at : List ℕ → ℕ → ℕ → ℕ → List Field
rest_at s at prev n = fields_from (length s) s at prev n

-- none of these fields stands first with the tag t
abbrev pub NoneFirst : ℕ → List Field → Type 0
NoneFirst t [] = Unit {0}
NoneFirst t (f ∷ fs) = f.tag ≢ t

-- ---- what is found

-- calls, by what they may answer, test a field that lies in the image by p
abbrev pub Tests : (Field → Bool → Type 0) → List ℕ → (Field → Bool) → Type 0
Tests answers s p = (f : Field) (r : Bool) → end_of f ≤ length s → answers f r → r ≡ p f

-- where the last of some fields ends, or at where there is none
abbrev pub stop_after : ℕ → List Field → ℕ
stop_after at [] = at
stop_after at (f ∷ fs) = stop_after (end_of f) fs

-- what framing finds
unfoldable pub framed : List ℕ → Result (Option ℕ) ℕ
framed s = cond (ltb (stop s) (length s)) (Err (stop s)) (Ok (first bad_tag (fields s)))
