use Rattle.std.proofs.Common.{◌∙◌}
use Rattle.rules.proofs.Laws.{ran}
use Rattle.rules.proofs.all_rules.Goals as goal

pub returns : goal.returns
returns c =
    let six = rw c.degrees.ensures at c.unify_clusters.ensures in
    record {
      ran = ran c.args.drivers.now c.requires.start.1 c.requires.start.0 c.rules_before_6.ensures six;
      same = six.puts.same ∙ c.rules_before_6.ensures.same;
    }
