-- `unify_links::target_of` meets its contract.
use Rattle.oce_model.specs.Model.{model_of}
use Rattle.unify_links.proofs.Laws.{target-connection, target-output}
use Rattle.unify_links.proofs.target_of.Goals as goal

pub returns-then-k-connections : goal.returns-then-k-connections
returns-then-k-connections c = target-connection (model_of c.args.image.now) c.connection_count-connections.ensures.0 c.args.k c.if-k-connections.true c.connection.ensures

pub returns-else-k-connections : goal.returns-else-k-connections
returns-else-k-connections c = target-output (model_of c.args.image.now) c.connection_count-connections.ensures.0 c.args.k c.if-k-connections.false c.connector_count.ensures.0
