-- The fields of a batch, each with an image in it, and refusal 11. FORMAT 22.
use Rattle.std.specs.Prelude.{ℕ, Bool, cond, not, ◌||◌, List, map, eqb, leb}
use Rattle.std.specs.Prelude.{Option, Some, None}
use Rattle.oce_model.specs.Image.{fields, stop, first}
use Rattle.oce_model.specs.declared.Field.{Field}
use Rattle.oce_model.specs.Refusals.{runs_past}
use Rattle.oce_model.specs.Texts.{text_of}

-- the tag of an image's field
abbrev pub image_tag : ℕ
image_tag = 0x30

-- a batch has no more images
abbrev pub most_images : ℕ
most_images = 4096

-- a field has another tag, or as many images as there may be stand before it: where no field before it is at fault, all of those are images
unfoldable pub bad_field : Field → Bool
bad_field f = not (eqb f.tag image_tag) || leb most_images f.ord

-- an offset, or else the second
abbrev pub or_else : Option ℕ → Option ℕ → Option ℕ
or_else None at = at
or_else (Some at) _ = Some at

-- Refusal 11: the offset of the first field at fault. Fields are walked by their lengths alone, up to the one that is cut short, which stands behind all others.
unfoldable pub first_fault : List ℕ → Option ℕ
first_fault s = or_else (first bad_field (fields s)) (cond (runs_past s) (Some (stop s)) None)

-- the image in a field: the field's contents, as a text is
abbrev pub image_in : List ℕ → Field → List ℕ
image_in s f = text_of s f

-- the images of a batch, in their order
unfoldable pub images : List ℕ → List (List ℕ)
images s = map (image_in s) (fields s)
