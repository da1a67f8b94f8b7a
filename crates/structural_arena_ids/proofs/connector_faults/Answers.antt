-- `structural_arena_ids::connector_faults` meets its contract.
use Rattle.std.proofs.Common.{rules}
use Rattle.structural_arena_ids.proofs.Laws.{connector-put}
use Rattle.structural_arena_ids.proofs.connector_faults.Goals as goal

pub returns : goal.returns
returns c = search (connector-put, rules)
