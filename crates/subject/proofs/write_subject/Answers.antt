-- Nothing is written where a subject has no label.
use Rattle.std.proofs.Common.{refl, sym}
use Rattle.base.proofs.Buffers.{starts_with-none}
use Rattle.subject.specs.Subject.{scratch_after}
use Rattle.subject.proofs.Laws.{none-written}
use Rattle.subject.proofs.write_subject.Goals as goal

pub returns-in-Nothing-clause-length : goal.returns-in-Nothing-clause-length
returns-in-Nothing-clause-length c = rw (none-written c.args.image.now c.args.scratch.now c.args.kind c.args.number c.subject_from.ensures c.in-Nothing.is) refl

pub returns-in-Nothing-clause-scratch : goal.returns-in-Nothing-clause-scratch
unfolding scratch_after
returns-in-Nothing-clause-scratch c = rw (none-written c.args.image.now c.args.scratch.now c.args.kind c.args.number c.subject_from.ensures c.in-Nothing.is) (sym (starts_with-none _))
