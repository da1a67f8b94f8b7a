-- A batch in which no field is at fault, and a pass over its images.
use Rattle.std.specs.Prelude.{ℕ, ◌+◌, ◌≤◌, ◌≡◌, List, [], ◌∷◌, length, drop}
use Rattle.std.specs.Prelude.{None}
use Rattle.oce_model.specs.Image.{fields, stop, first}
use Rattle.oce_model.specs.declared.Field.{Field}
use Rattle.batch.specs.Fields.{most_images, bad_field}

-- its fields end with it, and none is bad
pub record Clean (s : List ℕ) : Type 0 where
  pub ends : stop s ≡ length s
  pub good : first bad_field (fields s) ≡ None

-- before the first of some fields stand i of its tag, and before each other one more than before the one in front of it
unfoldable pub Counted : ℕ → List Field → Type 0
Counted i [] = Unit {0}
Counted i (f ∷ fs) = (f.ord ≡ i) × Counted (i + 1) fs

-- a loop over the images has rest before it, with i images passed
pub record Ahead (s : List ℕ) (i : ℕ) (rest : List Field) : Type 0 where
  pub good : first bad_field rest ≡ None
  pub here : rest ≡ drop i (fields s)
  pub all : i + length rest ≡ length (fields s)
  pub counted : Counted i rest
  pub few : i ≤ most_images
