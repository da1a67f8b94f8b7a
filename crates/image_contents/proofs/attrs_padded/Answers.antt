-- `attrs_padded` meets its contract: the bytes that are there and zeros behind them are the bytes of the definition.
use mathlib.Core.Path.{◌∙◌}
use native.Mathlib.Omega.{arith}
use lib.ListN.{length-take}
use Rattle.numbers.proofs.Bytes.{byte-padded}
use Rattle.oce_model.specs.Format.{attrs_length}
use Rattle.image_contents.proofs.Laws.{same-attrs}
use Rattle.image_contents.proofs.attrs_padded.Goals as goal

pub copy_at-requires : goal.copy_at-requires
copy_at-requires c = rw (c.part_of.ensures, length-take) (omega arith)

pub returns : goal.returns
returns c =
    c.attrs_inside.ensures
    ∙ same-attrs c.copy_at.new.dst c.args.s.now 0 c.args.at
    (λ i h. byte-padded c.args.s.now c.args.at attrs_length attrs_length i c.part_of.ensures c.copy_at.ensures (omega arith) (omega arith))
