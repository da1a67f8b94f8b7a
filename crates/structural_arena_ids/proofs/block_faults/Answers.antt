-- `structural_arena_ids::block_faults` meets its contract.
use Rattle.std.proofs.Common.{rules}
use Rattle.structural_arena_ids.proofs.Laws.{block-put}
use Rattle.structural_arena_ids.proofs.block_faults.Goals as goal

pub returns : goal.returns
returns c = search (block-put, rules)
