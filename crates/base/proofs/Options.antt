-- Options: what is there differs from nothing.
use mathlib.Core.Path.{◌≡◌}
use Rattle.std.specs.Prelude.{Option, Some, None}

module _ {A : Type 0} where
  pub some-ne-none : (a : A) → Some a ≡ None → ⊥
  some-ne-none a h = cc

  pub none-ne-some : (a : A) → None ≡ Some a → ⊥
  none-ne-some a h = cc

  -- what is there, or else d
  abbrev pub get_or : Option A → A → A
  get_or None d = d
  get_or (Some a) d = a

-- a function of what is there
abbrev pub map : {A B : Type 0} → (A → B) → Option A → Option B
map f None = None
map f (Some a) = Some (f a)
