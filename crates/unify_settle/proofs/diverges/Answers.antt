-- `unify_settle::diverges` meets its contract.
use Rattle.std.proofs.Common.{◌∙◌}
use Rattle.oce_model.specs.Model.{model_of}
use Rattle.unify_settle.proofs.Laws.{told-agreed}
use Rattle.unify_settle.proofs.diverges.Goals as goal

pub returns : goal.returns
returns c = c.is_err.ensures.value ∙ told-agreed (model_of c.args.image.now).texts c.args.detail c.args.members.now c.args.slots.now c.agreed.ensures
