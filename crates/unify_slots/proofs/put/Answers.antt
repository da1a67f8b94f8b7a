-- `unify_slots::put` meets its contract.
use Rattle.std.proofs.Common.{rules}
use Rattle.unify_slots.proofs.Laws.{put-other, put-marked, put-new}
use Rattle.unify_slots.proofs.put.Goals as goal
use Rattle.unify_slots.proofs.put.Goals.{else-has_kind-via-then-has_kind+else-not-is_marked, else-has_kind-via-else-has_kind}

ruleset mine = (put-other, put-marked, put-new, rules)

pub returns-then-not-is_marked : goal.returns-then-not-is_marked
returns-then-not-is_marked c = search mine

pub returns-else-has_kind : goal.returns-else-has_kind
returns-else-has_kind c = elim c.else-has_kind.branch [ else-has_kind-via-then-has_kind+else-not-is_marked w ↦ search mine | else-has_kind-via-else-has_kind w ↦ search mine ]
