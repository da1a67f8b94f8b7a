-- `unify_clusters::linked_roots` meets its contract.
use Rattle.unify_clusters.proofs.Laws.{unified-tested, unified-not}
use Rattle.unify_clusters.proofs.linked_roots.Goals as goal

pub returns-then-report-eq0 : goal.returns-then-report-eq0
returns-then-report-eq0 g c =
    let e = rw c.list-links.ensures at c.unify_roots.ensures in
    unified-tested c.args.degrees.now e.filled e.reported (rw c.list-links.ensures at c.check_propagated_clusters.ensures) c.if-report-eq0.true

pub returns-else-report-eq0 : goal.returns-else-report-eq0
returns-else-report-eq0 g c = let e = rw c.list-links.ensures at c.unify_roots.ensures in unified-not c.args.degrees.now e.filled e.reported c.if-report-eq0.false
