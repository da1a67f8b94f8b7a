-- `structural_arena_ids::check_arena_ids` meets its contract: a block a turn, then a connector a turn.
use Rattle.std.proofs.Common.{arith, rules}
use Rattle.oce_diag.proofs.Reporting.{turns-start, turns-next}
use Rattle.structural_arena_ids.proofs.Laws.{rule1-put}
use Rattle.structural_arena_ids.proofs.check_arena_ids.Goals as goal

pub loop-i-init : goal.loop-i-init
loop-i-init c = search (turns-start, rules)

pub loop-i-preserved : goal.loop-i-preserved
loop-i-preserved c = search (turns-next, rules)

pub loop-i-2-init : goal.loop-i-2-init
loop-i-2-init c = search (turns-start, rules)

pub loop-i-2-preserved : goal.loop-i-2-preserved
loop-i-2-preserved c = search (turns-next, rules)

pub returns : goal.returns
returns c =
    let b = c.block_count-i-end.ensures in
    let d = c.connector_count-i-end.ensures in
    rule1-put _ c.loop-i.invariant (omega arith) b.0 b.1 c.loop-i-2.invariant (omega arith) d.0 d.1
