-- `structural_degrees::in_degrees` meets its contract.
use borrow.Author.Rules.{rules}
use Rattle.std.proofs.Common.{◌+◌, ◌≡◌, min, arith}
use Rattle.oce_model.specs.Model.{model_of, connection_count}
use Rattle.structural_degrees.specs.Counted.{portion}
use Rattle.structural_degrees.proofs.Laws.{counts_start, counts_all}
use Rattle.structural_degrees.proofs.in_degrees.Goals as goal

pub loop-first-init : goal.loop-first-init
loop-first-init c = search (counts_start, rules)

-- there is no connection
pub returns : goal.returns
returns c = search (counts_all, rules)

-- the last portion is counted
pub returns-2 : goal.returns-2
returns-2 c =
    let n = connection_count (model_of c.args.image.now) in
    let all : min (c.loop-first.first + portion) n ≡ n = omega arith in
    (counts_all c.count_portion.ensures.0 all (omega arith), omega arith)
