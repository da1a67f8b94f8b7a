-- `unify_settle::agreed` meets its contract.
use Rattle.oce_model.specs.Model.{model_of}
use Rattle.unify_settle.proofs.Laws.{agreed-none, agreed-some, agreed-not}
use Rattle.unify_settle.proofs.agreed.Goals as goal

pub returns-in-None : goal.returns-in-None
returns-in-None c = agreed-none (model_of c.args.image.now).texts c.args.detail c.in-None.ensures

pub returns-then-all_agree : goal.returns-then-all_agree
returns-then-all_agree c = agreed-some (model_of c.args.image.now).texts c.args.detail c.in-Some.ensures c.all_agree.ensures c.if-all_agree.true

pub returns-else-all_agree : goal.returns-else-all_agree
returns-else-all_agree c = agreed-not (model_of c.args.image.now).texts c.args.detail c.in-Some.ensures c.all_agree.ensures c.if-all_agree.false
