use Rattle.oce_validate.proofs.Laws.{filled-kept, filled-written}
use Rattle.oce_validate.proofs.leave_filled.Goals as goal

pub returns-then-counted-gt0 : goal.returns-then-counted-gt0
returns-then-counted-gt0 c =
    let e = rw c.image.ensures at c.bytes.ensures in
    let f = rw e.bytes at c.copy_image.ensures in
    filled-kept c.requires.0 _ e.accepted f.bytes f.filled c.if-counted-gt0.true

pub returns-else-counted-gt0 : goal.returns-else-counted-gt0
returns-else-counted-gt0 c = filled-written c.requires.0 _ c.fill_image.ensures c.if-counted-gt0.false
