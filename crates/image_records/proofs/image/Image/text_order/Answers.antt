use Rattle.std.proofs.Common.{ℕ, ◌≡◌, sym, rules}
use Rattle.std.specs.declared.cmp.Ordering.TheVariants.{Equal}
use Rattle.oce_model.specs.Texts.{order}
use Rattle.oce_model.specs.Model.{Model, text}
use Rattle.oce_model.proofs.Order.{order-refl}
use Rattle.image_records.proofs.image.Image.text_order.Goals as goal

-- a text equals itself
itself : (m : Model) (i j : ℕ) → i ≡ j → Equal ≡ order (text m i) (text m j)
itself m i j e = rw e (sym (order-refl (text m j)))

pub returns-then-i-j : goal.returns-then-i-j
returns-then-i-j c = search (itself, rules)
