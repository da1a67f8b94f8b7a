-- The slots of a model (FORMAT 15) by their numbers.
use Rattle.std.specs.Prelude.{ℕ, ◌+◌, ◌<◌, List, length, get_or}
use Rattle.oce_model.specs.Model.{Model, connector_count, boundary_output_count}

-- one for each connector and each boundary output
abbrev pub slot_count : Model → ℕ
slot_count m = connector_count m + boundary_output_count m

-- every member of a list is one of n slots
pub record Inside (n : ℕ) (js : List ℕ) : Type 0 where
  pub each : (i : ℕ) → i < length js → get_or js i 0 < n
