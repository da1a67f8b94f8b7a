-- All members are noted, and then collected.
use borrow.Author.Rules.{rules}
use Rattle.crossed_buckets.proofs.Laws.{noted-start, collected-crowded}
use Rattle.crossed_buckets.proofs.collect_crowded.Goals as goal

pub note_all-requires : goal.note_all-requires
note_all-requires c = search (noted-start, rules)

pub returns-clause-crowded : goal.returns-clause-crowded
returns-clause-crowded c = collected-crowded _ _ c.note_all.ensures.known c.note_all.ensures.members c.collect_known.ensures
