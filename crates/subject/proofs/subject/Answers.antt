-- Nothing of a refused image, otherwise the part.
use Rattle.std.proofs.Common.{refl}
use Rattle.subject.specs.Subject.{part}
use Rattle.subject.proofs.subject.Goals as goal

pub returns-in-Ok : goal.returns-in-Ok
unfolding part
returns-in-Ok c = rw (c.in-Ok.ensures.1, c.accepted_subject.ensures, c.in-Ok.ensures.0) refl

pub returns-in-Err : goal.returns-in-Err
unfolding part
returns-in-Err c = rw c.in-Err.ensures refl
