-- The slots of a model, by number: the attributes of its connectors, and behind them those of its boundary outputs.
use Prim.Native.Nat.{ℕ, ◌+◌, ◌<◌}
use mathlib.Core.Path.{◌≡◌, ◌∙◌}
use mathlib.Core.List.{map}
use lib.ListN.{length, length-map, length-append, get_or-append, get_or-map}
use lib.Seq.{get_or-append-add}
use Rattle.oce_model.specs.Attributes.{no_attrs}
use Rattle.oce_model.specs.Model.{BoundaryOutput, Connector, Model, boundary_output, boundary_output_count, connector, connector_count, no_boundary_output, no_connector}
use Rattle.unify.specs.Slots.{slot, slots_of}

module _ (m : Model) where
  -- The first are the connectors'.
  pub slot-connector : (i : ℕ) → i < connector_count m → slot (slots_of m) i ≡ (connector m i).attrs
  unfolding slot slots_of connector no_connector
  slot-connector i l =
      let k : i < length (map (λ (c : Connector). c.attrs) m.connectors) = rw length-map l in
      get_or-append (map (λ (c : Connector). c.attrs) m.connectors) (map (λ (b : BoundaryOutput). b.attrs) m.boundary_outputs) no_attrs i k
      ∙ get_or-map (λ (c : Connector). c.attrs) m.connectors i no_connector

  -- Then come the boundary outputs'.
  pub slot-out : (i : ℕ) → slot (slots_of m) (connector_count m + i) ≡ (boundary_output m i).attrs
  unfolding slot slots_of boundary_output no_boundary_output
  slot-out i =
      (rw length-map at (get_or-append-add (map (λ (c : Connector). c.attrs) m.connectors) (map (λ (b : BoundaryOutput). b.attrs) m.boundary_outputs) i no_attrs))
      ∙ get_or-map (λ (b : BoundaryOutput). b.attrs) m.boundary_outputs i no_boundary_output

  -- There are as many as both together.
  pub slots_length : length (slots_of m) ≡ connector_count m + boundary_output_count m
  unfolding slots_of
  slots_length = simp (length-append, length-map)
