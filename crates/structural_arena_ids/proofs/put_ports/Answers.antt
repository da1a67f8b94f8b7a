-- `structural_arena_ids::put_ports` meets its contract: a port a turn.
use Rattle.std.proofs.Common.{rules}
use Rattle.oce_diag.proofs.Reporting.{turns-start, turns-next}
use Rattle.structural_arena_ids.proofs.Laws.{port-put}
use Rattle.structural_arena_ids.proofs.put_ports.Goals as goal

pub loop-j-init : goal.loop-j-init
loop-j-init c = search (turns-start, rules)

pub loop-j-preserved : goal.loop-j-preserved
loop-j-preserved c = search (turns-next, port-put, rules)
