-- `structural_degrees::count_portion` meets its contract.
use borrow.Author.Rules.{rules}
use Rattle.std.proofs.Common.{◌≡◌, ◌≤◌, ◌∙◌, length, length-take-le, arith}
use Rattle.structural_degrees.specs.Counted.{portion}
use Rattle.structural_degrees.proofs.Laws.{counts-spare, counts-portion}
use Rattle.structural_degrees.proofs.count_portion.Goals as goal

pub add_degrees-requires : goal.add_degrees-requires
add_degrees-requires c = search (counts-spare, rules)

pub returns : goal.returns
returns c =
    let few : c.min.result ≤ portion = omega arith in
    let long : length c.read_connections.new.list ≡ c.min.result = c.read_connections.auto.list ∙ length-take-le c.min.result _ few in
    counts-portion c.requires.1 c.read_connections.ensures c.add_degrees.ensures (omega arith)
