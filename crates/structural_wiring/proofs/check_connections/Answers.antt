-- `structural_wiring::check_connections` meets its contract: a connection a turn.
use Rattle.std.proofs.Common.{arith, rules}
use Rattle.oce_diag.proofs.Reporting.{turns-start, turns-next}
use Rattle.structural_wiring.proofs.Laws.{rule4-put}
use Rattle.structural_wiring.proofs.check_connections.Goals as goal

pub loop-k-init : goal.loop-k-init
loop-k-init c = search (turns-start, rules)

pub loop-k-preserved : goal.loop-k-preserved
loop-k-preserved c = search (turns-next, rules)

pub returns : goal.returns
returns c =
    let n = c.connection_count-k-end.ensures in
    rule4-put _ c.loop-k.invariant (omega arith) n.0 n.1
