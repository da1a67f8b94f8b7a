use Rattle.std.proofs.Common.{◌∙◌}
use Rattle.image_texts.proofs.Bytewise.{eq-same}
use Rattle.image_texts.proofs.same_bytes.Goals as goal

pub returns : goal.returns
returns c = c.eq.ensures ∙ eq-same c.args.a.now c.args.b.now
