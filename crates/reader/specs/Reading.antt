-- What stands at a place of an image, and the place behind it.
use Rattle.std.specs.Prelude.{ℕ, ◌≡◌, Bool, cond, leb, List, length, Option, None, Some}
use Rattle.oce_model.specs.Image.{field_end}
use Rattle.image_framing.specs.Walk.{leading_at}
use Rattle.reader.specs.declared.Found.{Found}
use Rattle.reader.specs.declared.Reader.{Reader}

-- a whole field stands there
abbrev pub whole : List ℕ → ℕ → Bool
whole s at = leb (field_end s at) (length s)

abbrev pub found_at : List ℕ → ℕ → Option Found
found_at s at = cond (whole s at) (Some (record { at = at; tag = (leading_at s at).tag; len = (leading_at s at).len })) None

-- behind it; where no whole field stands, the same place
abbrev pub after_at : List ℕ → ℕ → ℕ
after_at s at = cond (whole s at) (field_end s at) at

-- a reader gives what stands where it is, and is then a reader of the same image behind it
pub record Reads (r : Reader) (x : Option Found) (rest : Reader) : Type 0 where
  pub found : x ≡ found_at r.image.now r.at
  pub image : rest.image ≡ r.image
  pub place : rest.at ≡ after_at r.image.now r.at
