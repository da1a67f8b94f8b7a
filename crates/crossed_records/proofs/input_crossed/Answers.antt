-- A boundary input's own range.
use Rattle.std.proofs.Common.{◌∙◌}
use Rattle.crossed_records.proofs.Laws.{input-puts}
use Rattle.crossed_records.proofs.input_crossed.Goals as goal

pub returns : goal.returns
returns c = input-puts _ _ c.put_crossed.ensures (c.from.ensures ∙ c.boundary_input_iri-iri.ensures) c.boundary_input_attrs-a.ensures
