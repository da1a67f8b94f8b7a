-- Batches made of images. FORMAT 22.
use Rattle.std.specs.Prelude.{ℕ, Bool, List, [], ◌∷◌, ◌++◌, leb, length}
use Rattle.base.specs.Lists.{all}
use Rattle.oce_model.specs.Format.{longest_image}
use Rattle.oce_model.specs.Build.{field}
use Rattle.batch.specs.Fields.{image_tag}

-- an image in its field
abbrev pub image_field : List ℕ → List ℕ
image_field s = field image_tag s

-- images, each in its field, one behind the other
unfoldable pub pack : List (List ℕ) → List ℕ
pack [] = []
pack (s ∷ ss) = image_field s ++ pack ss

-- the longest contents of a field are as long as the longest image
unfoldable pub packable : List (List ℕ) → Bool
packable ss = all (λ s. leb (length s) longest_image) ss
