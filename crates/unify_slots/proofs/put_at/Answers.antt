-- `unify_slots::put_at` meets its contract: a slot that there is.
use Rattle.oce_model.specs.Attributes.{no_attrs}
use Rattle.unify.specs.Slots.{slot}
use Rattle.unify_slots.proofs.put_at.Goals as goal

pub returns-then-j-slots : goal.returns-then-j-slots
unfolding slot no_attrs
returns-then-j-slots c = rw c.put.ensures
