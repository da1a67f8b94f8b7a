-- The part of each image begins where the one before ends.
use Rattle.std.proofs.Common.{arith}
use Rattle.print_batch.proofs.Laws.{printing-start, printing-done, printing-room, printing-end, printing-part, printing-turn}
use Rattle.print_batch.proofs.print_images.Goals as goal

pub loop-f-init : goal.loop-f-init
loop-f-init g c = printing-start _ c.requires (cc) (omega arith)

pub answer_in-answer-requires : goal.answer_in-answer-requires
answer_in-answer-requires g c = printing-room c.loop-f.invariant c.in-Some.ensures.steps

pub print_image-requires : goal.print_image-requires
print_image-requires g c = printing-part c.loop-f.invariant c.in-Some.ensures.steps c.answer_in-answer.ensures

pub overflow_add-o : goal.overflow_add-o
overflow_add-o g c = let e = printing-end c.loop-f.invariant c.in-Some.ensures.steps c.answer_in-answer.ensures c.size_of-o.ensures in omega arith

pub loop-f-preserved : goal.loop-f-preserved
loop-f-preserved g c = printing-turn c.loop-f.invariant c.in-Some.ensures.steps c.answer_in-answer.ensures c.in_ok-print_image.ensures c.size_of-o.ensures

pub returns : goal.returns
returns g c = printing-done c.loop-f.invariant c.in-None.ensures.steps.0
