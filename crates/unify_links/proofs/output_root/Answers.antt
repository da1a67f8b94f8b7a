-- `unify_links::output_root` meets its contract.
use Rattle.std.proofs.Common.{rules}
use Rattle.unify_links.proofs.Laws.{output-far, output-told, output-in, output-sound}
use Rattle.unify_links.proofs.output_root.Goals as goal
use Rattle.unify_links.proofs.output_root.Goals.{then-not-is_in, else-not-is_in}

ruleset mine = (output-far, output-told, output-in, output-sound, rules)

pub returns-then-connector_count-source : goal.returns-then-connector_count-source
returns-then-connector_count-source c = search mine

pub returns : goal.returns
returns c = elim c.if-not-is_in.branch [ then-not-is_in w ↦ search mine | else-not-is_in w ↦ search mine ]
