-- `unify_slots::declared` meets its contract.
use Rattle.unify_slots.proofs.Laws.{declared-other, declared-kind}
use Rattle.unify_slots.proofs.declared.Goals as goal
use Rattle.unify_slots.proofs.declared.Goals.{then-has_kind, else-has_kind}

pub returns : goal.returns
returns c =
    elim c.if-has_kind.branch [
      | then-has_kind w ↦
          declared-kind c.args.detail c.args.a.now c.kind.ensures c.has_kind.ensures w.if-has_kind.true c.bit-p.ensures.marks w.is_marked.ensures
          c.then_some.ensures w.then_some-is c.number.ensures
      | else-has_kind w ↦ declared-other c.args.detail c.args.a.now c.kind.ensures c.has_kind.ensures w.if-has_kind.false _ c.then_some.ensures w.then_some-is
    ]
