-- `filling::fill_image` meets its contract.
use Rattle.std.proofs.Common.{◌≡◌, ap, length, arith, rules}
use Rattle.oce_model.proofs.Attributes.{bytes-length}
use Rattle.filling.proofs.Laws.{fills-start, fills-inside, fills-fit, fills-turn, fills-done}
use Rattle.filling.proofs.fill_image.Goals as goal

pub loop-j-init : goal.loop-j-init
loop-j-init c =
    let e = c.attrs-attrs.ensures in
    fills-start c.bytes.ensures.accepted (rw (e.is, c.image-image.ensures) e.all) (omega (arith, ap length c.image-image.ensures))

pub slot_offset-requires : goal.slot_offset-requires
slot_offset-requires c = fills-inside c.loop-j.invariant (search rules)

pub copy_at-requires : goal.copy_at-requires
copy_at-requires c = rw (c.encode.ensures, bytes-length _) (fills-fit c.loop-j.invariant c.slot_offset.ensures (search rules))

pub loop-j-preserved : goal.loop-j-preserved
loop-j-preserved c = fills-turn c.loop-j.invariant _ (rw c.encode.ensures at c.copy_at.ensures) c.slot_offset.ensures (search rules) (search rules)

pub returns : goal.returns
returns c =
    let e : c.loop-j.j ≡ length c.attrs-attrs.result.now = omega arith in
    rw (← c.attrs-attrs.ensures.is, ← c.image-image.ensures) (fills-done c.loop-j.invariant _ (rw c.bytes.ensures.bytes at c.copy_image.ensures.filled) e)
