-- The search asks each connector once.
use Rattle.std.proofs.Common.{◌∙◌, ap, refl, arith, rules, tests}
use Rattle.std.proofs.lemmas.Iterator.{YieldsList-from_range}
use Rattle.std.proofs.lemmas.Iterator.Search.{any_from_yields_List}
use Rattle.base.specs.Lists.{below}
use Rattle.oce_model.specs.Model.{model_of, connector_count}
use Rattle.crossed_bounds.specs.CrossedBounds.{member_external}
use Rattle.crossed_members.proofs.Laws.{any-below}
use Rattle.crossed_members.proofs.some_external.Goals as goal

pub returns : goal.returns
returns c =
    let f = member_external (model_of c.args.externals.now) in
    let n = c.connector_count.result in
    any_from_yields_List f _ _ _ c.any.ensures.ran (YieldsList-from_range 0 n n refl (omega arith)) (λ x b q k. search (rules, tests))
    ∙ any-below f n ∙ ap (λ k. below k f) (c.connector_count.ensures.0 ∙ ap (λ s. connector_count (model_of s)) c.image.ensures)
