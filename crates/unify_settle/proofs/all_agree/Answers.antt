-- `unify_settle::all_agree` meets its contract: each member is asked once.
use Rattle.std.proofs.Common.{◌∙◌, rules, tests}
use Rattle.std.proofs.lemmas.Iterator.{YieldsList-from_slice}
use Rattle.std.proofs.lemmas.Iterator.Search.{all_from_yields_List}
use Rattle.oce_model.specs.Model.{model_of}
use Rattle.unify.specs.Slots.{slot, value}
use Rattle.unify_settle.specs.Settle.{member_agrees}
use Rattle.unify_settle.proofs.Laws.{members-agree}
use Rattle.unify_settle.proofs.all_agree.Goals as goal

pub returns : goal.returns
returns c =
    let σ = c.args.slots.now in
    let ts = (model_of c.args.image.now).texts in
    let d = c.args.detail in
    all_from_yields_List (λ j. member_agrees ts d c.args.v (value d (slot σ j))) _ _ _ c.all.ensures.ran (YieldsList-from_slice c.args.members.now cc) (λ x b q k. search (rules, tests))
    ∙ members-agree ts d c.args.v σ c.args.members.now
