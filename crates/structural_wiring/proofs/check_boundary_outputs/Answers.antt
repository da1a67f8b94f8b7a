-- `structural_wiring::check_boundary_outputs` meets its contract: a boundary output a turn.
use Rattle.std.proofs.Common.{arith, rules}
use Rattle.oce_diag.proofs.Reporting.{turns-start, turns-next}
use Rattle.structural_wiring.proofs.Laws.{rule2-put}
use Rattle.structural_wiring.proofs.check_boundary_outputs.Goals as goal

pub loop-i-init : goal.loop-i-init
loop-i-init c = search (turns-start, rules)

pub loop-i-preserved : goal.loop-i-preserved
loop-i-preserved c = search (turns-next, rules)

pub returns : goal.returns
returns c =
    let n = c.boundary_output_count-i-end.ensures in
    rule2-put _ c.loop-i.invariant (omega arith) n.0 n.1
