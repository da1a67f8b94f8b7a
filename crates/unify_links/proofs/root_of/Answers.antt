-- `unify_links::root_of` meets its contract.
use Rattle.std.proofs.Common.{ap, ◌∙◌, ◌-◌}
use Rattle.oce_model.specs.Model.{model_of, boundary_output, connection_count}
use Rattle.unify_links.specs.Links.{output_root}
use Rattle.unify_links.proofs.Laws.{root-connection, root-output}
use Rattle.unify_links.proofs.root_of.Goals as goal

pub returns-then-k-connections : goal.returns-then-k-connections
returns-then-k-connections c =
    let n = c.connection_count-connections.ensures.0 ∙ ap (λ s. connection_count (model_of s)) c.image-image.ensures in
    root-connection (model_of c.args.degrees.now) n c.args.k c.if-k-connections.true c.connection_root.ensures

pub returns-else-k-connections : goal.returns-else-k-connections
returns-else-k-connections c =
    let n = c.connection_count-connections.ensures.0 ∙ ap (λ s. connection_count (model_of s)) c.image-image.ensures in
    root-output (model_of c.args.degrees.now) n c.args.k c.if-k-connections.false
    (c.output_root.ensures ∙ ap (λ s. output_root (model_of s) (boundary_output (model_of s) (c.args.k - c.connection_count-connections.result))) c.image-image.ensures)
