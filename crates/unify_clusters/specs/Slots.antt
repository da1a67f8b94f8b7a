-- An image with its slots (FORMAT 15), as rule 6 reads and fills them.
use Rattle.std.specs.Prelude.{ℕ, List}
use Rattle.oce_model.specs.Model.{model_of}
use Rattle.unify.specs.Slots.{Slots, slots_of}
use Rattle.unify.specs.Unify.{filled_to, filled_slots}

-- the bytes of an image, and a table of its slots
pub record SlotTable : Type 0 where
  pub image : List ℕ
  pub attrs : Slots

-- an image with its slots as they are read
abbrev pub loaded : List ℕ → SlotTable
loaded s = record { image = s; attrs = slots_of (model_of s) }

-- an image with its slots after the connectors below n, as rule 6 fills them, and after all roots
abbrev pub filled_before : List ℕ → ℕ → SlotTable
filled_before s n = record { image = s; attrs = filled_to (model_of s) n }

abbrev pub filled : List ℕ → SlotTable
filled s = record { image = s; attrs = filled_slots (model_of s) }
