-- Groups as runs of neighbours with equal keys in a sorted list.
use Rattle.std.specs.Prelude.{ℕ, cond, List, [], ◌∷◌}
use Rattle.oce_model.specs.Texts.{order, is_equal}
use Rattle.crossed_bounds.specs.Groups.{Group, alone, joined}

module _ (key : ℕ → List ℕ) where
  -- g is open, and the members of the list follow
  unfoldable pub runs_from : Group → List ℕ → List Group
  runs_from g [] = g ∷ []
  runs_from g (x ∷ xs) = cond (is_equal (order (key g.first) (key x))) (runs_from (joined g x) xs) (g ∷ runs_from (alone x) xs)

  -- the runs of a list
  unfoldable pub runs : List ℕ → List Group
  runs [] = []
  runs (x ∷ xs) = runs_from (alone x) xs
