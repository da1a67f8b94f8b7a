-- A connector's own range.
use Rattle.crossed_records.proofs.Laws.{connector-puts}
use Rattle.crossed_records.proofs.connector_crossed.Goals as goal

pub returns : goal.returns
returns c = connector-puts _ _ c.put_crossed.ensures c.subject_of-subject.ensures c.connector-c.ensures.0 c.connector_attrs-a.ensures
