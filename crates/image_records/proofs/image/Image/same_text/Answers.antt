use Rattle.std.proofs.Common.{ℕ, ◌≡◌, true, sym, rules}
use Rattle.base.specs.Lists.{same}
use Rattle.base.proofs.Lists.{same_refl}
use Rattle.oce_model.specs.Model.{Model, text}
use Rattle.image_records.proofs.image.Image.same_text.Goals as goal

-- a text is the same as itself
itself : (m : Model) (i j : ℕ) → i ≡ j → true ≡ same (text m i) (text m j)
itself m i j e = rw e (sym (same_refl (text m j)))

pub returns-then-i-j : goal.returns-then-i-j
returns-then-i-j c = search (itself, rules)
