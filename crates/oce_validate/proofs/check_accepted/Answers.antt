use Rattle.std.proofs.Common.{◌<◌, length}
use Rattle.oce_validate.proofs.Laws.{image-small, short-filled}
use Rattle.oce_validate.proofs.check_accepted.Goals as goal

pub overflow_cast-result : goal.overflow_cast-result
overflow_cast-result c = let e = c.bytes-size.ensures in rw e.bytes (image-small _ e.accepted)

pub returns-then-filled-size : goal.returns-then-filled-size
returns-then-filled-size c =
    let e = c.bytes-size.ensures in
    let h : length c.args.filled.now < length c.args.image.now = rw e.bytes at c.if-filled-size.true in
    rw e.bytes (short-filled _ _ e.accepted h)
