-- `batch_check::write_part` meets its contract: one part of the output, by the answer that was kept.
use Rattle.std.proofs.Common.{rules, arith}
use Rattle.batch_check.proofs.Passes.{entry-is, entry-room, entry-end, entry-bytes}
use Rattle.batch_check.proofs.write_part.Goals as goal

pub write_image-requires : goal.write_image-requires
write_image-requires c = (search (entry-is, rules), search (entry-room, rules))

pub overflow_add-result : goal.overflow_add-result
overflow_add-result c = let e = entry-end _ c.args.o c.requires.1 c.size_of.ensures in let r = c.requires.2 in omega arith

pub returns-clause-end : goal.returns-clause-end
returns-clause-end c = search (entry-end, rules)

pub returns-clause-output : goal.returns-clause-output
returns-clause-output c = search (entry-bytes, rules)
