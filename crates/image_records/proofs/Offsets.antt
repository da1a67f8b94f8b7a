-- A table of an accepted image, cut to the fields with its tag: the offset of each of them.
use Prim.Native.Nat.{ℕ, ◌<◌}
use mathlib.Core.Path.{◌≡◌, sym, ap, ◌∙◌}
use mathlib.Core.List.{List}
use lib.ListN.{length, get_or, take, length-map}
use Rattle.std.proofs.Math.Seq.{take-append_seam}
use Rattle.base.specs.Buffers.{starts_with}
use Rattle.base.proofs.Members.{get_or-map}
use Rattle.oce_model.specs.Image.{field_at, fields, of_tag}
use Rattle.oce_model.specs.declared.Field.{Field}
use Rattle.oce_model.proofs.Fields.{nth}
use Rattle.image_accept.specs.Layout.{Tabled, offsets_of}

module _ (t : ℕ) (s : List ℕ) where
  pub offsets-many : length (offsets_of t s) ≡ length (of_tag t (fields s))
  unfolding offsets_of
  offsets-many = length-map _ _

  pub cut : {table : List ℕ} → Tabled t s table → take (length (of_tag t (fields s))) table ≡ offsets_of t s
  unfolding starts_with
  cut g = rw (sym offsets-many) (ap (take (length (offsets_of t s))) g.offsets ∙ take-append_seam (offsets_of t s) _)

  module _ {table : List ℕ} (g : table ≡ offsets_of t s) {i : ℕ} where
    pub listed : i < length (of_tag t (fields s)) → i < length table
    listed k = rw (g, offsets-many) k

    pub many : i < length table → i < length (of_tag t (fields s))
    many k = rw (g, offsets-many) at k

    pub stands : i < length table → get_or table i 0 ≡ (nth t s i).at
    unfolding offsets_of
    stands k = rw g (get_or-map (λ (f : Field). f.at) (of_tag t (fields s)) i (field_at s 0 0 0) 0 (many k))
