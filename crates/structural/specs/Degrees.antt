-- In-degrees, as `in_degrees` in rules/mod.rs counts them, and external inputs. FORMAT 11 and 3.
use Rattle.std.specs.Prelude.{ℕ, Bool, cond, eqb}
use Rattle.base.specs.Lists.{tally, any}
use Rattle.oce_model.specs.Model.{Model, connection, connection_count, is_connector}

-- the `to` of connection k is i
abbrev pub leads_to : Model → ℕ → ℕ → Bool
leads_to m i k = eqb (connection m k).to i

-- the in-degree of an id: the number of connections whose `to` it is, whatever their `from`; 0 if the id is no connector's number
unfoldable pub degree : Model → ℕ → ℕ
degree m i = cond (is_connector m i) (tally (connection_count m) (leads_to m i)) 0

-- an id is among the external inputs
unfoldable pub external : Model → ℕ → Bool
external m id = any (eqb id) m.external_inputs
