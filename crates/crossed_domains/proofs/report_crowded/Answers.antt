-- The members of crowded buckets, sorted, are reported as all are.
use native.Mathlib.Omega.{arith}
use mathlib.Core.Path.{ap, ◌∙◌}
use Rattle.oce_diag.proofs.Reporting.{puts-more}
use Rattle.oce_model.specs.Model.{model_of}
use Rattle.crossed_bounds.specs.CrossedBounds.{member_key, groups_faults}
use Rattle.crossed_domains.specs.Runs.{runs}
use Rattle.crossed_domains.proofs.Laws.{members-sorted, length-sorted, sorted-key, collected-below, collected-few, collected-faults}
use Rattle.crossed_domains.proofs.report_crowded.Goals as goal

pub sort-requires : goal.sort-requires
sort-requires c = omega (arith, collected-few _ c.collect_crowded-crowd.ensures.crowded, c.requires.2)

pub report_groups-requires : goal.report_groups-requires
report_groups-requires c =
    let m = model_of c.args.externals.now in
    let pre = c.requires in
    let found = c.collect_crowded-crowd.ensures.crowded in
    let few = collected-few m found in
    let same = length-sorted _ _ c.sort.ensures in
    (members-sorted _ _ c.sort.ensures _ (collected-below m found), omega (arith, few, same, pre.3), omega (arith, few, same, pre.4))

pub returns : goal.returns
returns c =
    let m = model_of c.args.externals.now in
    let found = c.collect_crowded-crowd.ensures in
    let key = sorted-key c.args.externals.now found.members c.image.ensures _ c.sort.ensures in
    puts-more c.report_groups.ensures (omega (arith, collected-few m found.crowded, length-sorted _ _ c.sort.ensures)) (ap (λ l. groups_faults m (runs (member_key m) l)) key ∙ collected-faults m found.crowded)
