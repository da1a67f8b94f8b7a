-- `unify_slots::declared_at` meets its contract: there is no such slot, or there is.
use Rattle.std.proofs.Common.{◌∙◌}
use Rattle.oce_model.specs.Attributes.{no_attrs}
use Rattle.unify.specs.Slots.{slot}
use Rattle.unify_slots.proofs.Laws.{declared-outside}
use Rattle.unify_slots.proofs.declared_at.Goals as goal

pub returns-in_err-get : goal.returns-in_err-get
returns-in_err-get c = c.from_residual.ensures ∙ declared-outside c.args.detail _ c.args.j (c.in_err-get.ensures.lookup.3)

pub returns : goal.returns
unfolding slot no_attrs
returns c = c.declared.ensures ∙ rw (← c.in_ok-get.ensures.lookup.3.1 no_attrs)
