-- A boundary output's own range.
use Rattle.crossed_records.proofs.Laws.{output-puts}
use Rattle.crossed_records.proofs.output_crossed.Goals as goal

pub returns : goal.returns
returns c = output-puts _ _ c.put_crossed.ensures c.from.ensures c.boundary_output-o.ensures c.boundary_output_attrs-a.ensures
