-- `refuse_image` meets its contract: refusals 2 and 3 by what framing found, then the others.
use mathlib.Core.Path.{sym, ap, ◌∙◌}
use native.Mathlib.Omega.{arith}
use Rattle.std.proofs.lemmas.Result.{err_from_is_err_and}
use Rattle.image_accept.specs.Layout.{refused}
use Rattle.image_accept.proofs.Refusals.{cut, bad-small, whole-bad, whole-good}
use Rattle.image_accept.proofs.GoodSize.refuse.Goals as goal

pub refuse-requires : goal.refuse-requires
refuse-requires c = omega (arith, c.args.self.now.size, (cut c.args.self.now.bytes.now c.args.self.now.size c.in-Err.ensures).0)

pub refuse-requires-in-Ok : goal.refuse-requires-in-Ok
refuse-requires-in-Ok c = bad-small c.args.self.now.bytes.now c.args.self.now.size c.in-Ok.ensures

pub returns-in_err-refuse-in-Ok : goal.returns-in_err-refuse-in-Ok
returns-in_err-refuse-in-Ok c =
    let p = err_from_is_err_and c.from_residual.result c.from_residual.ensures.1 in
    whole-bad c.args.self.now.bytes.now c.args.self.now.size c.in-Ok.ensures c.refuse-in-Ok.ensures c.in_err-refuse-in-Ok.was p.1 p.2

pub returns-in-Err : goal.returns-in-Err
returns-in-Err c = c.refuse.ensures ∙ sym (ap refused (cut c.args.self.now.bytes.now c.args.self.now.size c.in-Err.ensures).1)

pub returns-in_ok-refuse-in-Ok : goal.returns-in_ok-refuse-in-Ok
returns-in_ok-refuse-in-Ok c = c.refuse_fields.ensures ∙ whole-good c.args.self.now.bytes.now c.args.self.now.size c.in-Ok.ensures c.refuse-in-Ok.ensures c.in_ok-refuse-in-Ok.was
