-- `filling::encode` meets its contract.
use Rattle.std.proofs.Common.{refl}
use Rattle.filling.proofs.Laws.{encoded}
use Rattle.filling.proofs.encode.Goals as goal

pub returns : goal.returns
returns c = encoded c.args.slot.now _ refl c.copy_at.ensures c.write.ensures c.write-2.ensures c.write-3.ensures c.write-4.ensures c.write-5.ensures c.write-6.ensures refl refl refl refl refl refl refl refl
