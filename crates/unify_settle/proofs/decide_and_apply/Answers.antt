-- `unify_settle::decide_and_apply` meets its contract.
use Rattle.std.proofs.Common.{◌∙◌}
use Rattle.oce_model.specs.Model.{model_of}
use Rattle.unify_settle.proofs.Laws.{filled-ok, filled-none, filled-err, told-agreed}
use Rattle.unify_settle.proofs.decide_and_apply.Goals as goal

pub returns-in_err-v-clause-filled : goal.returns-in_err-v-clause-filled
returns-in_err-v-clause-filled c = filled-err (model_of c.args.image.now).texts c.args.detail c.args.members.now c.args.slots.now c.in_err-v.ensures

pub returns-in_err-v-clause-told : goal.returns-in_err-v-clause-told
returns-in_err-v-clause-told c = c.from_residual.ensures.0 ∙ told-agreed (model_of c.args.image.now).texts c.args.detail c.args.members.now c.args.slots.now c.in_err-v.ensures

pub returns-in-Some-clause-filled : goal.returns-in-Some-clause-filled
returns-in-Some-clause-filled c = c.put_members.ensures ∙ filled-ok (model_of c.args.image.now).texts c.args.detail c.args.members.now c.args.slots.now c.in-Some.is c.in_ok-v.ensures

pub returns-in-Some-clause-told : goal.returns-in-Some-clause-told
returns-in-Some-clause-told c = told-agreed (model_of c.args.image.now).texts c.args.detail c.args.members.now c.args.slots.now c.in_ok-v.ensures

pub returns-in_default-clause-filled : goal.returns-in_default-clause-filled
returns-in_default-clause-filled c = filled-none (model_of c.args.image.now).texts c.args.detail c.args.members.now c.args.slots.now c.in_default.is c.in_ok-v.ensures

pub returns-in_default-clause-told : goal.returns-in_default-clause-told
returns-in_default-clause-told c = told-agreed (model_of c.args.image.now).texts c.args.detail c.args.members.now c.args.slots.now c.in_ok-v.ensures
