-- `unify_links::connection_root` meets its contract.
use mathlib.Core.Bool.{true≢false}
use borrow.Author.Tests.{le-ltb}
use Rattle.std.proofs.Common.{ap, sym, ◌∙◌}
use Rattle.oce_model.specs.Model.{model_of, connection, connector_count}
use Rattle.image_records.specs.Records.{connection_read}
use Rattle.unify_links.proofs.Laws.{connection-told, connection-drives, connection-from, connection-to}
use Rattle.unify_links.proofs.connection_root.Goals as goal
use Rattle.unify_links.proofs.connection_root.Goals.{then-c-n, else-c-n, then-c-n-2, else-c-n-2}

pub returns : goal.returns
returns c =
    let m = model_of c.args.degrees.now in
    let n = c.connector_count-n.ensures.0 ∙ ap (λ s. connector_count (model_of s)) c.image-image.ensures in
    let e = c.connection-c.ensures ∙ ap (λ s. connection_read (connection (model_of s) c.args.k)) c.image-image.ensures in
    connection-told m n c.args.k e c.then_some.ensures (elim c.if-c-n.branch [
      | then-c-n u ↦ elim c.if-c-n-2.branch [
        | then-c-n-2 w ↦ connection-drives m n c.args.k e u.if-c-n.true u.value-is w.if-c-n-2.true w.degree.ensures w.drives-is
        | else-c-n-2 w ↦ w.drives-is ∙ connection-to m n c.args.k e u.if-c-n.true u.value-is w.if-c-n-2.false
      ]
      | else-c-n u ↦
          let far = u.value-is ∙ le-ltb _ _ u.if-c-n.false in
          elim c.if-c-n-2.branch [
            | then-c-n-2 w ↦ absurd (true≢false (sym w.if-c-n-2.true ∙ far))
            | else-c-n-2 w ↦ w.drives-is ∙ far ∙ connection-from m n c.args.k e u.if-c-n.false
          ]
    ])
