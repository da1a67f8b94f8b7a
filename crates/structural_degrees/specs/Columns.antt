-- In-degrees of all connectors, in a column. FORMAT 11.
use Rattle.std.specs.Prelude.{ℕ, ◌+◌, ◌<◌, ◌≤◌, ◌≡◌, List, eqb, length, get_or}
use Rattle.base.specs.Lists.{tally}
use Rattle.oce_model.specs.Model.{Model, connection, connector_count}
use Rattle.oce_model.specs.declared.Connection.{Connection}
use Rattle.image_records.specs.Records.{connection_read}
use Rattle.structural.specs.Degrees.{degree}
use Rattle.structural_degrees.specs.Counted.{absent}

-- ---- degrees

-- the list begins with the k connections from number first on
pub record Reads (m : Model) (first k : ℕ) (list : List Connection) : Type 0 where
  pub each : (j : ℕ) → j < k → get_or list j absent ≡ connection_read (connection m (first + j))

-- at each place, how many of the first k connections lead there
pub record Counts (m : Model) (k : ℕ) (ds : List ℕ) : Type 0 where
  pub each : (i : ℕ) → i < length ds → get_or ds i 0 ≡ tally k (λ j. eqb (connection m j).to i)

-- the in-degree of each connector
pub record Degrees (m : Model) (ds : List ℕ) : Type 0 where
  pub room : connector_count m ≤ length ds
  pub each : (i : ℕ) → i < connector_count m → get_or ds i 0 ≡ degree m i
