-- One connection more, by whether it leads to one of the places.
use Rattle.std.proofs.Common.{◌<◌, ◌≤◌, length, arith, sym, ◌∙◌}
use Rattle.oce_model.specs.Model.{no_connection}
use Rattle.image_records.specs.Records.{connection_read}
use Rattle.structural_degrees.proofs.Counting.{to, counted_none, counted-more, counted_same, room-left}
use Rattle.structural_degrees.proofs.add_degrees.Goals as goal
use Rattle.structural_degrees.proofs.add_degrees.Goals.{then-to-degrees, else-to-degrees}

pub loop-c-init : goal.loop-c-init
loop-c-init c = sym (counted_none _ _)

pub overflow_add-degrees : goal.overflow_add-degrees
unfolding connection_read no_connection
overflow_add-degrees c =
    let inside : to c.args.connections.now c.loop-c.c-index < length c.args.degrees.now = omega arith in
    record { fits = rw c.loop-c.invariant (omega (arith, room-left _ _ c.loop-c.c-index _ c.requires c.loop-c-test.true inside)) }

pub loop-c-preserved : goal.loop-c-preserved
unfolding connection_read no_connection
loop-c-preserved c =
    elim c.if-to-degrees.branch [
      | then-to-degrees w ↦
          let inside : to c.args.connections.now c.loop-c.c-index < length c.args.degrees.now = omega arith in
          w.degrees-is ∙ rw c.loop-c.invariant (counted-more c.args.degrees.now c.args.connections.now c.loop-c.c-index inside)
      | else-to-degrees w ↦
          let past : length c.args.degrees.now ≤ to c.args.connections.now c.loop-c.c-index = omega arith in
          w.degrees-is ∙ c.loop-c.invariant ∙ counted_same c.args.degrees.now c.args.connections.now c.loop-c.c-index past
    ]
