-- Two texts are the same where their bytes don't differ.
use Rattle.std.proofs.Common.{◌∙◌}
use Rattle.crossed_domains.proofs.Laws.{same-key}
use Rattle.crossed_domains.proofs.same_key.Goals as goal

pub returns : goal.returns
returns c = same-key _ _ _ (c.from.ensures ∙ c.member_iri.ensures) (c.from-2.ensures ∙ c.member_iri-2.ensures) c.same_text.ensures
