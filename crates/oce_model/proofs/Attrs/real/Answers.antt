use Rattle.std.proofs.Common.{rules}
use Rattle.oce_model.specs.Attributes.{real_attrs}
use Rattle.oce_model.proofs.Attrs.real.Goals as goal

pub returns : goal.returns
unfolding real_attrs
returns c = search rules
