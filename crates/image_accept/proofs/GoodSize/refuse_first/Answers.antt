-- `refuse_first` meets its contract: an offset in an image has room in four bytes.
use Rattle.image_accept.proofs.Refusals.{small}
use Rattle.image_accept.proofs.GoodSize.refuse_first.Goals as goal

pub refuse-requires : goal.refuse-requires
refuse-requires g c = small _ c.first_fault.result c.args.self.now.size.1 c.first_fault.ensures.inside
