-- `read_ending` meets its contract: the bytes that are there and zeros behind them are the bytes of the definition.
use mathlib.Core.Path.{◌∙◌}
use native.Mathlib.Omega.{arith}
use Rattle.numbers.specs.Bytes.{longest}
use Rattle.numbers.proofs.Bytes.{byte-padded}
use Rattle.numbers.proofs.read_ending.Goals as goal

pub returns : goal.returns
returns g c =
    c.read.ensures
    ∙ g.met.T.LittleEndian.same c.copy_at.new.dst c.args.s.now 0 c.args.at
    (λ i h. byte-padded c.args.s.now c.args.at c.SIZE.result longest i c.part_of.ensures c.copy_at.ensures (omega (arith, c.SIZE.ensures, g.met.T.LittleEndian.fits)) (omega (arith, c.SIZE.ensures)))
