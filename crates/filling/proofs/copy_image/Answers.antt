-- `filling::copy_image` meets its contract.
use Rattle.std.proofs.Common.{arith, rules}
use Rattle.base.proofs.Buffers.{starts_with-patch}
use Rattle.filling.proofs.copy_image.Goals as goal

pub returns : goal.returns
returns c =
    let each = c.type_inv.image in
    record { filled = search (starts_with-patch, rules); bytes = λ i. omega (arith, each i) }
