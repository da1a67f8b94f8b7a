-- `structural_wiring::connection_faults` meets its contract: both ends are connectors or not.
use Rattle.std.proofs.Common.{rules}
use Rattle.structural_wiring.proofs.Laws.{connection-inside, from-outside, to-outside}
use Rattle.structural_wiring.proofs.connection_faults.Goals as goal
use Rattle.structural_wiring.proofs.connection_faults.Goals.{else-c-n-via-then-c-n+else-c-n-2, else-c-n-via-else-c-n}

pub returns-then-c-n-2 : goal.returns-then-c-n-2
returns-then-c-n-2 c = search (connection-inside, rules)

pub returns-else-c-n : goal.returns-else-c-n
returns-else-c-n c = elim c.else-c-n.branch [ else-c-n-via-then-c-n+else-c-n-2 w ↦ search (to-outside, rules) | else-c-n-via-else-c-n w ↦ search (from-outside, rules) ]
