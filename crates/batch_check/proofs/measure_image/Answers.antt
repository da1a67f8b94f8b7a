-- `batch_check::measure_image` meets its contract: summed up and kept.
use Rattle.std.proofs.Common.{rules, ap}
use Rattle.std.specs.Prelude.{set}
use Rattle.batch_check.proofs.Passes.{summed, measures}
use Rattle.batch_check.proofs.measure_image.Goals as goal

pub returns-clause-kept : goal.returns-clause-kept
returns-clause-kept c = ap (λ a. set c.args.kept.now c.args.f.ord a) (summed c.summarize_at-answer.ensures c.image_in.ensures)

pub returns-clause-measures : goal.returns-clause-measures
returns-clause-measures c = search (measures, rules)
