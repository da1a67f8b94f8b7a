-- The layout has the defaults of the head.
use borrow.Author.Rules.{rules}
use Rattle.crossed_ranges.proofs.Read.{range-real, range-integer}
use Rattle.crossed_ranges.proofs.range_of.Goals as goal

pub returns-then-has_kind : goal.returns-then-has_kind
returns-then-has_kind c = search (range-real, rules)

pub returns-then-has_kind-2 : goal.returns-then-has_kind-2
returns-then-has_kind-2 c = search (range-integer, rules)
