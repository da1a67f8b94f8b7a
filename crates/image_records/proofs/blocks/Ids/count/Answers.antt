use Rattle.oce_model.specs.Model.{ids_at}
use Rattle.base.proofs.Lists.{length-tab}
use Rattle.std.proofs.Common.{sym}
use Rattle.image_records.proofs.blocks.Ids.count.Goals as goal

pub returns : goal.returns
unfolding ids_at
returns c = (rw (← c.self.view_is) (sym (length-tab _ _)), c.self.invariant.0)
