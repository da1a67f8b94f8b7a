-- Nothing for a refused image, otherwise the label.
use Rattle.std.proofs.Common.{refl, sym}
use Rattle.base.proofs.Buffers.{starts_with-none}
use Rattle.subject.specs.Subject.{written, scratch_after}
use Rattle.subject.proofs.write_accepted.Goals as goal

pub returns-in-Ok-clause-length : goal.returns-in-Ok-clause-length
unfolding written
returns-in-Ok-clause-length c = rw (c.in-Ok.ensures.1, c.write_label.ensures.length) refl

pub returns-in-Ok-clause-scratch : goal.returns-in-Ok-clause-scratch
unfolding scratch_after written
returns-in-Ok-clause-scratch c = rw (c.in-Ok.ensures.1, c.write_label.ensures.scratch) refl

pub returns-in-Err-clause-length : goal.returns-in-Err-clause-length
unfolding written
returns-in-Err-clause-length c = rw c.in-Err.ensures refl

pub returns-in-Err-clause-scratch : goal.returns-in-Err-clause-scratch
unfolding scratch_after written
returns-in-Err-clause-scratch c = rw c.in-Err.ensures (sym (starts_with-none _))
