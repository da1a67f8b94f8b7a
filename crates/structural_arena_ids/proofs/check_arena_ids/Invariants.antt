-- `structural_arena_ids::check_arena_ids` meets its contract: a block a turn, then a connector a turn.
use Rattle.oce_model.specs.Model.{model_of, block, connector}
use Rattle.oce_diag.specs.Reporting.{Turns}
use Rattle.structural.specs.Structural.{block_faults, connector_faults}
use Rattle.structural_arena_ids.specs.PerRecord.{most_block_faults, most_connector_faults}
use Rattle.structural_arena_ids.proofs.check_arena_ids.Given as goal

abbrev pub invariant-loop-i : goal.invariant-loop-i
invariant-loop-i l = Turns (λ i. block_faults (model_of l.image) i (block (model_of l.image) i)) most_block_faults l.initial.report l.report l.i

abbrev pub invariant-loop-i-2 : goal.invariant-loop-i-2
invariant-loop-i-2 l = Turns (λ i. connector_faults (model_of l.image) i (connector (model_of l.image) i)) most_connector_faults l.initial.report l.report l.i
