-- `unify_clusters::unify_roots` meets its contract.
use Rattle.std.proofs.Common.{arith}
use Rattle.unify_clusters.proofs.Roots.{roots-start, roots-room, roots-next, roots-filled, roots-reported}
use Rattle.unify_clusters.proofs.unify_roots.Goals as goal

pub loop-r-init : goal.loop-r-init
loop-r-init c = roots-start c.args.links.now c.requires.0

pub unify_root-requires : goal.unify_root-requires
unify_root-requires c =
    let n = rw c.image.ensures at c.connector_count-r-end.ensures in
    (c.loop-r.invariant.slots, omega arith, omega arith, roots-room c.args.links.now c.loop-r.invariant c.requires.2 (omega arith) (omega arith))

pub loop-r-preserved : goal.loop-r-preserved
loop-r-preserved c = roots-next c.args.links.now c.loop-r.invariant c.unify_root.ensures.filled c.unify_root.ensures.reported

pub returns-clause-filled : goal.returns-clause-filled
returns-clause-filled c =
    let n = rw c.image.ensures at c.connector_count-r-end.ensures in
    roots-filled c.args.links.now c.loop-r.invariant (omega arith)

pub returns-clause-reported : goal.returns-clause-reported
returns-clause-reported c =
    let n = rw c.image.ensures at c.connector_count-r-end.ensures in
    roots-reported c.args.links.now c.loop-r.invariant (omega arith)
