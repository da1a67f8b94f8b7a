-- `unify_seen::Seen::shows` meets its contract.
use Rattle.unify_seen.proofs.Laws.{shows-real, shows-integer}
use Rattle.unify_seen.proofs.Seen.shows.Goals as goal
use Rattle.unify_seen.proofs.Seen.shows.Goals.{in-Real, in_default}

pub returns : goal.returns
returns c =
    elim c.match-kind.branch [
      | in-Real w ↦ shows-real c.args.detail c.args.self.real c.args.self.integer c.kind.ensures c.bit.ensures.marks (cc) w.in-Real.is
      | in_default w ↦ shows-integer c.args.detail c.args.self.real c.args.self.integer c.kind.ensures c.bit.ensures.marks (cc) w.in_default.not-Real
    ]
