-- `unify_settle::agrees` meets its contract.
use Rattle.std.proofs.Common.{rules}
use Rattle.unify_settle.proofs.Laws.{agree-text, agree-end}
use Rattle.unify_settle.proofs.agrees.Goals as goal

ruleset mine = (agree-text, agree-end, rules)

pub returns-then-is_text : goal.returns-then-is_text
returns-then-is_text c = search mine

pub returns-else-is_text : goal.returns-else-is_text
returns-else-is_text c = search mine
