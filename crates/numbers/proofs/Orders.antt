-- What holds of every order whose tests `lt` and `le` compute: `reals` and `integers` are two.
use mathlib.Core.Path.{◌≡◌, refl, sym, ◌∙◌}
use mathlib.Core.Logic.{◌⊎◌, inl, inr}
use mathlib.Core.Bool.{Bool, true, false, false≢true}

-- a total order of the values that pass `ok`
pub record Ordered {X : Type 0} (ok : X → Bool) (lt le : X → X → Bool) : Type 0 where
  pub le_refl : (x : X) → ok x ≡ true → le x x ≡ true
  pub lt-le : (x y : X) → lt x y ≡ true → le x y ≡ true
  pub not-lt-le : (x y : X) → lt y x ≡ false → ok x ≡ true → ok y ≡ true → le x y ≡ true
  pub le_not_lt : (x y : X) → le x y ≡ true → ok x ≡ true → ok y ≡ true → lt y x ≡ false
  pub le_trans : (x y z : X) → le x y ≡ true → le y z ≡ true → ok x ≡ true → ok y ≡ true → ok z ≡ true → le x z ≡ true

module _ {X : Type 0} {ok : X → Bool} {lt le : X → X → Bool} (o : Ordered ok lt le) where
  pub clash : (x y : X) → lt x y ≡ true → le y x ≡ true → ok x ≡ true → ok y ≡ true → ⊥
  clash x y h k p q = false≢true (sym (o.le_not_lt y x k q p) ∙ h)

  pub total : (x y : X) → ok x ≡ true → ok y ≡ true → (le x y ≡ true) ⊎ (le y x ≡ true)
  total x y p q = arm (lt y x) refl
    where
      arm : (b : Bool) → lt y x ≡ b → (le x y ≡ true) ⊎ (le y x ≡ true)
      arm true h = inr (o.lt-le y x h)
      arm false h = inl (o.not-lt-le x y h p q)
