-- The external inputs (FORMAT 3) in two columns: a mark for each small id, and the other ids in ascending order.
use Rattle.std.specs.Prelude.{ℕ, ◌<◌, ◌≡◌, Bool, false, List, ltb, leb, length, get_or}
use Rattle.base.specs.Lists.{keep}
use Rattle.oce_model.specs.Model.{Model}
use Rattle.structural.specs.Degrees.{external}
use Rattle.sorting.specs.Sort.{sorted}

-- of some ids those from h on: they have no mark
abbrev pub others : ℕ → List ℕ → List ℕ
others h ids = keep (leb h) ids

-- the external inputs in two lists: a mark for each small id, set where the id is external, and the others in ascending order
pub record Split (m : Model) (marks : List Bool) (ids : List ℕ) : Type 0 where
  pub each : (i : ℕ) → i < length marks → get_or marks i false ≡ external m i
  pub rest : ids ≡ sorted ltb (others (length marks) m.external_inputs)
