-- The pass over the members behind the first.
use native.Mathlib.Omega.{arith}
use Rattle.std.proofs.Common.{ap}
use Rattle.oce_model.specs.Model.{model_of}
use Rattle.oce_diag.proofs.Reporting.{puts-more}
use Rattle.crossed_domains.specs.Pass.{pass_faults}
use Rattle.crossed_domains.proofs.Reporting.{no-runs, passed-start, passed-turn, passed-end, passed-small, passed-room, member-first, member-next}
use Rattle.crossed_domains.proofs.report_groups.Goals as goal

pub returns-in_default : goal.returns-in_default
returns-in_default c = no-runs _ _ c.in_default.ensures.cases

pub loop-y-init : goal.loop-y-init
loop-y-init c =
    let pre = c.requires in
    let parts = c.in-Some.ensures.cases in
    passed-start _ _ _ _ c.of-p.ensures (member-first pre.0 parts.0)

pub step-p-requires : goal.step-p-requires
step-p-requires c =
    let pre = c.requires in
    let parts = c.in-Some.ensures.cases in
    let at = c.loop-y.invariant in
    (at.first, member-next pre.0 parts.0 _ c.loop-y-test.true, passed-small at parts.0 pre.1 (omega arith), passed-room at parts.0 pre.2 (omega arith))

pub loop-y-preserved : goal.loop-y-preserved
loop-y-preserved c =
    let pre = c.requires in
    let parts = c.in-Some.ensures.cases in
    passed-turn c.loop-y.invariant c.step-p.ensures (member-next pre.0 parts.0 _ c.loop-y-test.true) c.loop-y-test.true

pub returns : goal.returns
returns c = let parts = c.in-Some.ensures.cases in passed-end c.loop-y.invariant parts.0 (puts-more c.close.ensures (omega arith) (ap (λ s. pass_faults (model_of s) c.loop-y.p) c.image-image.ensures)) (omega arith)
