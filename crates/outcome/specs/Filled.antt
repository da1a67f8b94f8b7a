-- The filled image: the image with its slots as rule 6 leaves them. FORMAT 17.
use Rattle.std.specs.Prelude.{ℕ, ◌+◌, List, ◌++◌, map, length, get_or}
use Rattle.base.specs.Lists.{steps}
use Rattle.base.specs.Buffers.{patch}
use Rattle.oce_model.specs.Format.{connector_tag, boundary_output_tag, connector_attrs, boundary_output_attrs}
use Rattle.oce_model.specs.Attributes.{attrs_bytes}
use Rattle.oce_model.specs.Image.{fields, of_tag}
use Rattle.oce_model.specs.declared.Field.{Field}
use Rattle.oce_model.specs.Model.{model_of}
use Rattle.unify.specs.Slots.{Slots, slot}
use Rattle.outcome.specs.Report.{final_slots}

-- where the attributes of each slot stand in the image: the connectors', then the boundary outputs'. FORMAT 15
unfoldable pub slot_offsets : List ℕ → List ℕ
slot_offsets s =
    map (λ (f : Field). f.at + connector_attrs) (of_tag connector_tag (fields s))
    ++ map (λ (f : Field). f.at + boundary_output_attrs) (of_tag boundary_output_tag (fields s))

-- the image with the attributes of its slots
unfoldable pub with_slots : List ℕ → Slots → List ℕ
with_slots s σ =
    let os = slot_offsets s in
    steps (length os) (λ j t. patch t (get_or os j 0) (attrs_bytes (slot σ j))) s

-- the slots are those that rule 6 leaves, the image's own with any error. FORMAT 17
unfoldable pub filled_of : List ℕ → List ℕ
filled_of s = with_slots s (final_slots (model_of s))
