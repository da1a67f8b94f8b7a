-- Members grouped by the bytes of their keys, groups in the order of these bytes: the `BTreeMap` of `check_combined_input_domains`, as a list. FORMAT 14.
-- The last two definitions tell without it what its groups are: proofs/Groups.antt shows it.
use Rattle.std.specs.Prelude.{ℕ, ◌≡◌, cond, List, [], ◌∷◌, ◌++◌}
use Rattle.base.specs.Lists.{keep, same}
use Rattle.oce_model.specs.Texts.{order, is_equal}
use Rattle.std.specs.declared.cmp.Ordering.{Ordering}
use Rattle.std.specs.declared.cmp.Ordering.TheVariants.{Less, Equal, Greater}

-- a group: its members in the order in which they joined
pub record Group : Type 0 where
  pub first : ℕ
  pub others : List ℕ

-- all of them
abbrev pub members : Group → List ℕ
members g = g.first ∷ g.others

-- a group of one member
abbrev pub alone : ℕ → Group
alone x = record { first = x; others = [] }

-- with one member more
abbrev pub joined : Group → ℕ → Group
joined g x = record { first = g.first; others = g.others ++ (x ∷ []) }

-- one of three, by how two keys stand to each other
abbrev pub by_order : Ordering → List Group → List Group → List Group → List Group
by_order Less a b c = a
by_order Equal a b c = b
by_order Greater a b c = c

module _ (key : ℕ → List ℕ) where
  -- `groups.entry(iri).or_default()`: x joins the group of its key; where there is none, it opens one at its place
  unfoldable pub enter : ℕ → List Group → List Group
  enter x [] = alone x ∷ []
  enter x (g ∷ gs) = by_order (order (key x) (key g.first)) (alone x ∷ g ∷ gs) (joined g x ∷ gs) (g ∷ enter x gs)

  -- members join one by one
  unfoldable pub enter_all : List Group → List ℕ → List Group
  enter_all gs [] = gs
  enter_all gs (x ∷ xs) = enter_all (enter x gs) xs

  -- `groups.get_mut(iri)`: x joins the group of its key, if there is one
  unfoldable pub extend : ℕ → List Group → List Group
  extend x [] = []
  extend x (g ∷ gs) = cond (is_equal (order (key x) (key g.first))) (joined g x ∷ gs) (g ∷ extend x gs)

  -- members join one by one, where there is a group
  unfoldable pub extend_all : List Group → List ℕ → List Group
  extend_all gs [] = gs
  extend_all gs (x ∷ xs) = extend_all (extend x gs) xs

  -- ---- what the groups are

  -- the members whose key has the bytes k, in their order: those of the group of the key k
  unfoldable pub with_key : List ℕ → List ℕ → List ℕ
  with_key k xs = keep (λ x. same k (key x)) xs

  -- the keys of the groups are all behind k
  abbrev pub KeysBehind : List ℕ → List Group → Type 0
  KeysBehind k [] = Unit {0}
  KeysBehind k (g ∷ gs) = (order k (key g.first) ≡ Less) × KeysBehind k gs

  -- the keys of the groups ascend: each is behind those before it, so no two are equal
  abbrev pub KeysAscend : List Group → Type 0
  KeysAscend [] = Unit {0}
  KeysAscend (g ∷ gs) = KeysBehind (key g.first) gs × KeysAscend gs
