-- `unify_cluster::conflict_code` meets its contract.
use Rattle.unify_cluster.proofs.Laws.{code-text, code-end}
use Rattle.unify_cluster.proofs.conflict_code.Goals as goal

pub returns-then-is_text : goal.returns-then-is_text
returns-then-is_text c = code-text c.args.detail c.is_text.ensures c.if-is_text.true

pub returns-else-is_text : goal.returns-else-is_text
returns-else-is_text c = code-end c.args.detail c.is_text.ensures c.if-is_text.false
