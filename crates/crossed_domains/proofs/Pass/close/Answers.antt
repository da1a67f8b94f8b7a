-- What is put is what is reported of the open group.
use Rattle.std.proofs.Common.{◌∙◌}
use Rattle.crossed_domains.proofs.Laws.{close-puts}
use Rattle.crossed_domains.proofs.Pass.close.Goals as goal

pub returns : goal.returns
returns c = close-puts _ _ c.put_if.ensures c.is_reported.ensures c.error-d.ensures (c.from.ensures ∙ c.member_iri-iri.ensures)
