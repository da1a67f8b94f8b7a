-- `unify_links::link_all` meets its contract.
use Rattle.oce_model.specs.Model.{model_of}
use Rattle.unify_links.specs.Links.{Linked}
use Rattle.unify_links.proofs.link_all.Given as goal

abbrev pub invariant-loop-k : goal.invariant-loop-k
invariant-loop-k l = Linked (model_of l.degrees) l.k l.head l.next
