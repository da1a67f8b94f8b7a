-- In-degrees over a list of connections: degrees that a list of them is added to.
use Rattle.std.specs.Prelude.{ℕ, ◌+◌, ◌<◌, ◌^◌, List, eqb, length, get_or}
use Rattle.base.specs.Lists.{tab, tally}
use Rattle.oce_model.specs.Model.{no_connection}
use Rattle.image_records.specs.Records.{connection_read}
use Rattle.oce_model.specs.declared.Connection.{Connection}

-- so many connections are lent at once
abbrev pub portion : ℕ
portion = 64

-- what stands behind a list's last connection
abbrev pub absent : Connection
absent = connection_read no_connection

-- how many of the first n connections lead to the id, as `degree` of crate structural counts them
abbrev pub lead_to : List Connection → ℕ → ℕ → ℕ
lead_to cs n id = tally n (λ k. eqb (get_or cs k absent).to.0 id)

-- ds with the first n connections counted, each at the place that it leads to
unfoldable pub counted : List ℕ → List Connection → ℕ → List ℕ
counted ds cs n = tab (length ds) (λ j. get_or ds j 0 + lead_to cs n j)

-- each place of ds can grow by n and stay a u32
pub record Spare (ds : List ℕ) (n : ℕ) : Type 0 where
  pub at : (j : ℕ) → get_or ds j 0 + n < 2 ^ 32
