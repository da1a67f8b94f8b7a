-- `agreement::compare` meets its contract: by what the check answers and leaves.
use borrow.Author.Rules.{rules}
use mathlib.Core.Path.{sym, ap, ◌∙◌}
use Rattle.std.specs.Prelude.{Ok}
use native.Mathlib.Omega.{arith}
use Rattle.agreement.proofs.Laws.{check-leaves, whole, accepted-refused, accepted-untold, accepted-told}
use Rattle.agreement.proofs.compare.Goals as goal

pub compare_results-requires : goal.compare_results-requires
compare_results-requires c = let each = c.type_inv.file in check-leaves c.args.file.now c.args.stored (λ i. omega (arith, each i)) c.part_of-image.ensures _ _ c.check.ensures.answer c.check.ensures.moved c.in-Ok.is (search rules)

pub returns-in-Err : goal.returns-in-Err
returns-in-Err c = c.compare_refusal.ensures ∙ whole _ _ _ _ c.part_of-image.ensures c.check.ensures.answer (search rules) (search rules) c.in-Err.is

pub returns-in-Err-said : goal.returns-in-Err-said
returns-in-Err-said c = accepted-refused _ _ _ c.in-Ok.counted (whole _ _ _ _ c.part_of-image.ensures c.check.ensures.answer (search rules) (search rules) c.in-Ok.is) (sym c.said.ensures ∙ c.in-Err-said.is)

pub returns-in-Ok-None : goal.returns-in-Ok-None
returns-in-Ok-None c = accepted-untold _ _ _ c.in-Ok.counted (whole _ _ _ _ c.part_of-image.ensures c.check.ensures.answer (search rules) (search rules) c.in-Ok.is) (sym c.said.ensures ∙ c.in-Ok-None.is ∙ ap Ok c.in-Ok-None.field-0-is)

pub returns-in-Ok-Some : goal.returns-in-Ok-Some
returns-in-Ok-Some c = accepted-told _ _ _ c.in-Ok.counted (whole _ _ _ _ c.part_of-image.ensures c.check.ensures.answer (search rules) (search rules) c.in-Ok.is) (sym c.said.ensures ∙ c.in-Ok-Some.is ∙ ap Ok c.in-Ok-Some.field-0-is) c.compare_results.ensures
