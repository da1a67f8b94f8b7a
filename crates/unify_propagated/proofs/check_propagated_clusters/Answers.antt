-- `unify_propagated::check_propagated_clusters` meets its contract.
use Rattle.std.proofs.Common.{arith}
use Rattle.oce_model.specs.Format.{most_connectors}
use Rattle.oce_model.specs.Model.{model_of, connector_count}
use Rattle.oce_diag.proofs.Reporting.{turns-start, turns-next, turns-room}
use Rattle.unify_propagated.proofs.Laws.{filled-long, propagated-all}
use Rattle.unify_propagated.proofs.check_propagated_clusters.Goals as goal

pub loop-r-init : goal.loop-r-init
loop-r-init c = turns-start

pub check_propagated_cluster-requires : goal.check_propagated_cluster-requires
check_propagated_cluster-requires c =
    let n = rw c.image.ensures at c.connector_count-r-end.ensures in (
      omega arith,
      filled-long (model_of c.args.links.now) c.requires.0,
      turns-room c.loop-r.invariant (connector_count (model_of c.args.links.now)) most_connectors most_connectors c.requires.1 (omega arith) (omega arith) (omega arith),
    )

pub loop-r-preserved : goal.loop-r-preserved
loop-r-preserved c = turns-next c.loop-r.invariant c.check_propagated_cluster.ensures

pub returns : goal.returns
returns c =
    let n = rw c.image.ensures at c.connector_count-r-end.ensures in
    propagated-all (model_of c.args.links.now) c.requires.0 n.0 c.loop-r.invariant (omega arith)
