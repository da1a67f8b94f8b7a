-- `structural_wiring::output_faults` meets its contract: the source is a connector or not.
use Rattle.std.proofs.Common.{rules}
use Rattle.structural_wiring.proofs.Laws.{output-inside, output-outside}
use Rattle.structural_wiring.proofs.output_faults.Goals as goal

pub returns-then-o-connector_count : goal.returns-then-o-connector_count
returns-then-o-connector_count c = search (output-inside, rules)

pub returns-else-o-connector_count : goal.returns-else-o-connector_count
returns-else-o-connector_count c = search (output-outside, rules)
