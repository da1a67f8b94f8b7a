-- No image is longer than the room.
use Rattle.std.proofs.Common.{◌≤◌, length, arith}
use Rattle.std.proofs.Math.ListN.{length-take}
use Rattle.oce_model.specs.Format.{longest_image}
use Rattle.agreement_filled.proofs.Laws.{image-short}
use Rattle.agreement_filled.proofs.image_agrees.Goals as goal

pub slice_bounds-room-end : goal.slice_bounds-room-end
slice_bounds-room-end c =
    let short : length c.args.image.now ≤ longest_image = image-short c.args.image.now c.bytes-bytes.ensures.accepted in
    rw c.bytes-bytes.ensures.bytes (omega arith)

pub slice_bounds-expected-end : goal.slice_bounds-expected-end
slice_bounds-expected-end c =
    let short : length c.args.image.now ≤ longest_image = image-short c.args.image.now c.bytes-bytes.ensures.accepted in
    rw (c.bytes-bytes.ensures.bytes, length-take) (omega arith)

pub copy_from_slice-requires : goal.copy_from_slice-requires
copy_from_slice-requires c =
    let short : length c.args.image.now ≤ longest_image = image-short c.args.image.now c.bytes-bytes.ensures.accepted in
    rw (c.bytes-bytes.ensures.bytes, length-take) (omega arith)
