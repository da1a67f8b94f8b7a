-- `unify_seen::take_in` meets its contract.
use Rattle.oce_model.specs.Model.{kind_number}
use Rattle.unify_seen.proofs.Laws.{taken-marks}
use Rattle.unify_seen.proofs.take_in.Goals as goal

pub returns-then-has_kind : goal.returns-then-has_kind
returns-then-has_kind c = taken-marks (kind_number c.args.wanted) c.args.a.now.kind c.args.a.now.marks c.args.had
