use borrow.Author.Rules.{rules}
use borrow.Author.Tests.{not-true, not-false}
use Rattle.agreement_filled.proofs.Laws.{reach-inside, filled-past, filled-astray, filled-same, filled-refused}
use Rattle.agreement_filled.proofs.filled_agrees.Goals as goal

pub returns-then-file-end : goal.returns-then-file-end
returns-then-file-end c = search (filled-past, rules)

pub returns-then-not-records_reach : goal.returns-then-not-records_reach
returns-then-not-records_reach c = search (filled-astray, not-true, rules)

pub image_agrees-requires : goal.image_agrees-requires
image_agrees-requires c =
    let reach = c.records_reach in
    let e = c.in-Ok.ensures in
    (reach-inside c.args.file.now c.args.at c.args.count c.args.end reach.ensures c.if-not-records_reach.false c.if-file-end.false, rw e.0 c.requires.1)

pub returns-in-Err : goal.returns-in-Err
returns-in-Err c = filled-refused _ _ _ _ _ c.in-Err.ensures c.requires.0

pub returns-in-Ok : goal.returns-in-Ok
returns-in-Ok c =
    let e = c.in-Ok.ensures in
    let h = rw e.0 at c.image_agrees.ensures in
    search (filled-same, not-false, rules)
