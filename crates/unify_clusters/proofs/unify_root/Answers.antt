-- `unify_clusters::unify_root` meets its contract.
use Rattle.std.proofs.Common.{◌∙◌, arith}
use Rattle.unify_clusters.proofs.Roots.{no-root-filled, no-root-reported, root-filled, root-reported}
use Rattle.unify_clusters.proofs.unify_root.Goals as goal

pub returns-then-gathered-gt1-clause-filled : goal.returns-then-gathered-gt1-clause-filled
returns-then-gathered-gt1-clause-filled c = root-filled c.args.links.now c.gather-gathered.ensures (c.slots.view_is ∙ c.requires.0) (omega arith) c.cluster.ensures.filled

pub returns-then-gathered-gt1-clause-reported : goal.returns-then-gathered-gt1-clause-reported
returns-then-gathered-gt1-clause-reported c = root-reported c.args.links.now c.gather-gathered.ensures (c.slots.view_is ∙ c.requires.0) (omega arith) c.cluster.ensures.reported

pub returns-else-gathered-gt1-clause-filled : goal.returns-else-gathered-gt1-clause-filled
returns-else-gathered-gt1-clause-filled c = no-root-filled c.args.links.now c.gather-gathered.ensures c.requires.0 (omega arith)

pub returns-else-gathered-gt1-clause-reported : goal.returns-else-gathered-gt1-clause-reported
returns-else-gathered-gt1-clause-reported c = no-root-reported c.args.links.now c.gather-gathered.ensures c.requires.0 (omega arith)
