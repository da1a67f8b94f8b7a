-- Lists that are made index by index, from 0 up, so that what stands after index i is what stood before it and one step more: the shape of a loop.
use Rattle.std.specs.Prelude.{ℕ, zero, suc, ◌+◌, Bool, true, false, ◌&&◌, ◌||◌, cond, List, [], ◌∷◌, ◌++◌, eqb}

module _ {A : Type 0} where
  -- f 0 ++ f 1 ++ .. ++ f (n - 1)
  unfoldable pub each : ℕ → (ℕ → List A) → List A
  each zero f = []
  each (suc i) f = each i f ++ f i

  -- f 0 ∷ f 1 ∷ .. ∷ f (n - 1) ∷ []
  abbrev pub tab : ℕ → (ℕ → A) → List A
  tab n f = each n (λ i. f i ∷ [])

  -- f (n - 1) (.. (f 1 (f 0 a)))
  unfoldable pub steps : ℕ → (ℕ → A → A) → A → A
  steps zero f a = a
  steps (suc i) f a = f i (steps i f a)

  -- the elements that pass the test
  unfoldable pub keep : (A → Bool) → List A → List A
  keep p [] = []
  keep p (x ∷ xs) = let t = keep p xs in cond (p x) (x ∷ t) t

  -- the test passes somewhere
  unfoldable pub any : (A → Bool) → List A → Bool
  any p [] = false
  any p (x ∷ xs) = p x || any p xs

  -- the test passes everywhere
  unfoldable pub all : (A → Bool) → List A → Bool
  all p [] = true
  all p (x ∷ xs) = p x && all p xs

  -- one element where the test passes, else none
  abbrev pub only : Bool → A → List A
  only true x = x ∷ []
  only false x = []

-- at how many indices below n the test passes
unfoldable pub tally : ℕ → (ℕ → Bool) → ℕ
tally zero f = zero
tally (suc i) f = tally i f + cond (f i) 1 0

-- the test passes at some index below n
unfoldable pub below : ℕ → (ℕ → Bool) → Bool
below zero f = false
below (suc i) f = below i f || f i

-- two byte strings are equal
unfoldable pub same : List ℕ → List ℕ → Bool
same [] [] = true
same [] (y ∷ ys) = false
same (x ∷ xs) [] = false
same (x ∷ xs) (y ∷ ys) = eqb x y && same xs ys
