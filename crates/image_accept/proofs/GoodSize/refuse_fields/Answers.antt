-- `refuse_fields` meets its contract: one refusal after the other.
use Rattle.std.proofs.Common.{rules, tests, ◌≡◌, length}
use mathlib.Core.Path.{refl}
use Rattle.oce_model.specs.Format.{text_tag}
use Rattle.oce_model.specs.Image.{fields, of_tag}
use Rattle.std.proofs.lemmas.Result.{err_from_is_err_and}
use Rattle.oce_model.specs.Refusals.{fault, bad_length, too_many, bad_contents, bad_text, bad_reference}
use Rattle.image_accept.proofs.Refusals.{refusing-start, refusing-next, refusing-found, refusing-last}
use Rattle.image_accept.proofs.GoodSize.refuse_fields.Goals as goal

pub returns-in_err-refuse_first : goal.returns-in_err-refuse_first
unfolding fault
returns-in_err-refuse_first c =
    let n : length (of_tag text_tag (fields c.args.self.now.bytes.now)) ≡ length (of_tag text_tag (fields c.args.self.now.bytes.now)) = refl in
    let r4 = c.refuse_first.ensures (bad_length c.args.self.now.bytes.now) (λ f r h k. search (rules, tests)) in
    let p = err_from_is_err_and c.from_residual.result c.from_residual.ensures.1 in
    refusing-found (refusing-start c.args.self.now.bytes.now) n r4 c.in_err-refuse_first.was p.1 p.2

pub returns-in_err-refuse_first-2 : goal.returns-in_err-refuse_first-2
unfolding fault
returns-in_err-refuse_first-2 c =
    let n : length (of_tag text_tag (fields c.args.self.now.bytes.now)) ≡ length (of_tag text_tag (fields c.args.self.now.bytes.now)) = refl in
    let r4 = c.refuse_first.ensures (bad_length c.args.self.now.bytes.now) (λ f r h k. search (rules, tests)) in
    let v1 = refusing-next (refusing-start c.args.self.now.bytes.now) n r4 c.in_ok-refuse_first.was in
    let r5 = c.refuse_first-2.ensures too_many (λ f r h k. search (rules, tests)) in
    let p = err_from_is_err_and c.from_residual-in_err-refuse_first-2.result c.from_residual-in_err-refuse_first-2.ensures.1 in
    refusing-found v1 n r5 c.in_err-refuse_first-2.was p.1 p.2

pub returns-in_err-refuse_first-3 : goal.returns-in_err-refuse_first-3
unfolding fault
returns-in_err-refuse_first-3 c =
    let n : length (of_tag text_tag (fields c.args.self.now.bytes.now)) ≡ length (of_tag text_tag (fields c.args.self.now.bytes.now)) = refl in
    let r4 = c.refuse_first.ensures (bad_length c.args.self.now.bytes.now) (λ f r h k. search (rules, tests)) in
    let v1 = refusing-next (refusing-start c.args.self.now.bytes.now) n r4 c.in_ok-refuse_first.was in
    let r5 = c.refuse_first-2.ensures too_many (λ f r h k. search (rules, tests)) in
    let v2 = refusing-next v1 n r5 c.in_ok-refuse_first-2.was in
    let r6 = c.refuse_first-3.ensures (bad_contents c.args.self.now.bytes.now) (λ f r h k. search (rules, tests)) in
    let p = err_from_is_err_and c.from_residual-in_err-refuse_first-3.result c.from_residual-in_err-refuse_first-3.ensures.1 in
    refusing-found v2 n r6 c.in_err-refuse_first-3.was p.1 p.2

pub returns-in_err-refuse_first-4 : goal.returns-in_err-refuse_first-4
unfolding fault
returns-in_err-refuse_first-4 c =
    let n : length (of_tag text_tag (fields c.args.self.now.bytes.now)) ≡ length (of_tag text_tag (fields c.args.self.now.bytes.now)) = refl in
    let r4 = c.refuse_first.ensures (bad_length c.args.self.now.bytes.now) (λ f r h k. search (rules, tests)) in
    let v1 = refusing-next (refusing-start c.args.self.now.bytes.now) n r4 c.in_ok-refuse_first.was in
    let r5 = c.refuse_first-2.ensures too_many (λ f r h k. search (rules, tests)) in
    let v2 = refusing-next v1 n r5 c.in_ok-refuse_first-2.was in
    let r6 = c.refuse_first-3.ensures (bad_contents c.args.self.now.bytes.now) (λ f r h k. search (rules, tests)) in
    let v3 = refusing-next v2 n r6 c.in_ok-refuse_first-3.was in
    let r7 = c.refuse_first-4.ensures (bad_text c.args.self.now.bytes.now) (λ f r h k. search (rules, tests)) in
    let p = err_from_is_err_and c.from_residual-in_err-refuse_first-4.result c.from_residual-in_err-refuse_first-4.ensures.1 in
    refusing-found v3 n r7 c.in_err-refuse_first-4.was p.1 p.2

pub returns : goal.returns
unfolding fault
returns c =
    let n = c.text_count-n.ensures in
    let r4 = c.refuse_first.ensures (bad_length c.args.self.now.bytes.now) (λ f r h k. search (rules, tests)) in
    let v1 = refusing-next (refusing-start c.args.self.now.bytes.now) n r4 c.in_ok-refuse_first.was in
    let r5 = c.refuse_first-2.ensures too_many (λ f r h k. search (rules, tests)) in
    let v2 = refusing-next v1 n r5 c.in_ok-refuse_first-2.was in
    let r6 = c.refuse_first-3.ensures (bad_contents c.args.self.now.bytes.now) (λ f r h k. search (rules, tests)) in
    let v3 = refusing-next v2 n r6 c.in_ok-refuse_first-3.was in
    let r7 = c.refuse_first-4.ensures (bad_text c.args.self.now.bytes.now) (λ f r h k. search (rules, tests)) in
    let v4 = refusing-next v3 n r7 c.in_ok-refuse_first-4.was in
    let r8 = c.refuse_first-5.ensures (bad_reference c.text_count-n.result c.args.self.now.bytes.now) (λ f r h k. search (rules, tests)) in
    refusing-last v4 n r8
