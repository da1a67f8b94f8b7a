-- `unify_slots::read_slots` meets its contract.
use Rattle.std.proofs.Common.{◌≡◌, take, map}
use Rattle.oce_model.specs.Model.{model_of, Connector, BoundaryOutput}
use Rattle.unify_slots.proofs.read_slots.Given as goal

abbrev pub invariant-loop-j : goal.invariant-loop-j
invariant-loop-j l = take l.j l.connectors ≡ take l.j (map (λ (c : Connector). c.attrs) (model_of l.image).connectors)

abbrev pub invariant-loop-i : goal.invariant-loop-i
invariant-loop-i l = take l.i l.outputs ≡ take l.i (map (λ (o : BoundaryOutput). o.attrs) (model_of l.image).boundary_outputs)
