-- `has_bad_byte` meets its contract: `any` of the iterator is the definition's.
use mathlib.Core.Bool.{Bool, not}
use mathlib.Core.List.{List, [], ◌∷◌}
use mathlib.Core.Path.{◌≡◌, refl, ◌∙◌}
use Prim.Native.Nat.{ℕ}
use Rattle.std.proofs.Common.{rules, tests}
use Rattle.std.proofs.lemmas.Iterator.{YieldsList-from_slice}
use Rattle.std.proofs.lemmas.Iterator.Search.{any_from_yields_List}
use Rattle.std.specs.List.{list_any}
use Rattle.base.specs.Lists.{any}
use Rattle.oce_model.specs.Texts.{is_text_byte}
use Rattle.image_faults.proofs.has_bad_byte.Goals as goal

is_any : (p : ℕ → Bool) (xs : List ℕ) → list_any p xs ≡ any p xs
unfolding any
is_any p [] = refl
is_any p (x ∷ xs) = rw (is_any p xs) refl

pub returns : goal.returns
returns c =
    let p : ℕ → Bool = λ b. not (is_text_byte b) in
    let bytes = c.args.bytes.now in
    any_from_yields_List p _ _ c.any.result c.any.ensures.ran (YieldsList-from_slice bytes cc) (λ x b q k. search (rules, tests)) ∙ is_any p bytes
