-- `unify_slots::read_slots` meets its contract.
use Rattle.std.proofs.Common.{arith}
use Rattle.oce_model.specs.Model.{connector, boundary_output, no_connector, no_boundary_output}
use Rattle.unify.specs.Slots.{slots_of}
use Rattle.unify_slots.proofs.Laws.{load-next, load-all}
use Rattle.unify_slots.proofs.read_slots.Goals as goal

pub loop-j-preserved : goal.loop-j-preserved
unfolding connector
loop-j-preserved c = load-next _ _ _ _ c.loop-j.invariant no_connector c.connector_attrs.ensures (omega arith) (omega arith)

pub loop-i-preserved : goal.loop-i-preserved
unfolding boundary_output
loop-i-preserved c = load-next _ _ _ _ c.loop-i.invariant no_boundary_output c.boundary_output_attrs.ensures (omega arith) (omega arith)

pub returns : goal.returns
unfolding slots_of
returns c = rw (load-all _ _ _ _ c.loop-j.invariant (omega arith) (omega arith), load-all _ _ _ _ c.loop-i.invariant (omega arith) (omega arith))
