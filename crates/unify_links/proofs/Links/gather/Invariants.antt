-- `unify_links::Links::gather` meets its contract.
use Rattle.std.proofs.Common.{◌-◌}
use Rattle.oce_model.specs.Model.{model_of}
use Rattle.unify_links.specs.Links.{link_count, place}
use Rattle.unify_links.proofs.Laws.{Gathers}
use Rattle.unify_links.proofs.Links.gather.Given as goal

abbrev pub invariant-loop-link : goal.invariant-loop-link
invariant-loop-link l = Gathers (model_of l.self-inside.image.now) l.fn.root.0 l.members l.c l.link

abbrev pub decreases-loop-link : goal.decreases-loop-link
decreases-loop-link l = link_count (model_of l.self-inside.image.now) - place (model_of l.self-inside.image.now) l.link
