-- `unify_clusters::unify_roots` meets its contract.
use Rattle.unify_clusters.proofs.Roots.{Roots}
use Rattle.unify_clusters.proofs.unify_roots.Given as goal

abbrev pub invariant-loop-r : goal.invariant-loop-r
invariant-loop-r l = Roots l.links l.slots l.initial.report l.report l.r
