-- The attributes of a slot stand inside the image.
use Rattle.std.proofs.Common.{refl}
use Rattle.agreement_filled.proofs.Laws.{slot-fits}
use Rattle.agreement_filled.proofs.put_record.Goals as goal

pub copy_at-requires : goal.copy_at-requires
copy_at-requires c = slot-fits c.args.image.now c.bytes.ensures.accepted refl _ _ c.in-Some.ensures c.slot_offset.ensures c.part_of-attrs.ensures c.requires.1
