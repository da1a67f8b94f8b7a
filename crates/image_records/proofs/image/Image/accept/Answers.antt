-- `Image::accept` meets its contract: the image of the layout of one that is accepted, or the refusal.
use Rattle.std.proofs.Common.{refl}
use Rattle.std.proofs.lemmas.Result.{err_from_is_err_and}
use Rattle.image_accept.proofs.Answers.{accepted-laid, accepted-tabled}
use Rattle.image_records.proofs.Images.{is-refused}
use Rattle.image_records.proofs.image.Image.accept.Goals as goal

pub of-requires : goal.of-requires
of-requires c =
    let e = c.in_ok-layout.ensures.answer in
    (accepted-laid e refl, accepted-tabled e refl c.accept.ensures.texts, accepted-tabled e refl c.accept.ensures.blocks)

pub returns-in_err-layout : goal.returns-in_err-layout
returns-in_err-layout c = let p = err_from_is_err_and c.from_residual.result c.from_residual.ensures.1 in rw (p.1, p.2) (is-refused c.args.bytes.now c.in_err-layout.ensures.answer)

pub returns : goal.returns
returns c = (c.of.ensures, (accepted-laid c.in_ok-layout.ensures.answer refl).accepted)
