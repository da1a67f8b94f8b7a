-- That boundary inputs are added to existing groups only makes no difference to the report: a group that one opens has no external member.
use mathlib.Core.Path.{◌≡◌, refl, ap, ◌∙◌}
use mathlib.Core.Bool.{Bool, false, cond}
use mathlib.Core.List.{List, [], ◌∷◌, ◌++◌}
use Prim.Native.Nat.{ℕ}
use Rattle.oce_model.specs.Texts.{order, is_equal}
use Rattle.std.specs.declared.cmp.Ordering.{Ordering}
use Rattle.std.specs.declared.cmp.Ordering.TheVariants.{Less, Equal, Greater}
use Rattle.oce_model.proofs.Order.{order-equal}
use Rattle.crossed_bounds.specs.Groups.{Group, members, alone, joined, by_order, enter, enter_all, extend, extend_all, KeysBehind, KeysAscend}
use Rattle.crossed_bounds.proofs.Groups.{behind-less, enter-ascends}
use Rattle.base.specs.Lists.{any}
use Rattle.base.proofs.Lists.{any_append}
use Rattle.oce_model.specs.Model.{Model}
use Rattle.crossed_bounds.specs.CrossedBounds.{member_external, group_faults, groups_faults}

module _ (key : ℕ → List ℕ) where
  module _ (external : ℕ → Bool) where
    abbrev Idle : Group → Type 0
    Idle g = any external (members g) ≡ false

    -- the first list is the second without some idle groups
    data Sub : List Group → List Group → Type 0 where
      none : Sub [] []
      both : {g : Group} {fs hs : List Group} → Sub fs hs → Sub (g ∷ fs) (g ∷ hs)
      skip : {g : Group} {fs hs : List Group} → Idle g → Sub fs hs → Sub fs (g ∷ hs)

    sub_same : (gs : List Group) → Sub gs gs
    sub_same [] = none
    sub_same (g ∷ gs) = both (sub_same gs)

    idle-alone : (x : ℕ) → external x ≡ false → Idle (alone x)
    unfolding any
    idle-alone x e = rw e

    idle-joined : (g : Group) (x : ℕ) → external x ≡ false → Idle g → Idle (joined g x)
    unfolding any
    idle-joined g x e i = any_append external (members g) (x ∷ []) ∙ rw (i, e)

    -- x's key is below all groups
    extend-none : (x : ℕ) {fs hs : List Group} → KeysBehind key (key x) hs → Sub fs hs → extend key x fs ≡ fs
    unfolding extend
    extend-none x a none = refl
    extend-none x a (both {g} s) = rw a.0 (ap (◌∷◌ g) (extend-none x a.1 s))
    extend-none x a (skip i s) = extend-none x a.1 s

    extend-sub : (x : ℕ) → external x ≡ false → {fs hs : List Group} → KeysAscend key hs → Sub fs hs → Sub (extend key x fs) (enter key x hs)
    unfolding extend enter
    extend-sub x e a none = skip (idle-alone x e) none
    extend-sub x e a (both {g} {fs} {hs} s) = go (order (key x) (key g.first)) refl (extend-sub x e a.1 s)
      where
        go : (o : Ordering) → order (key x) (key g.first) ≡ o → Sub (extend key x fs) (enter key x hs)
            → Sub (cond (is_equal o) (joined g x ∷ fs) (g ∷ extend key x fs)) (by_order o (alone x ∷ g ∷ hs) (joined g x ∷ hs) (g ∷ enter key x hs))
        go Less f r = rw (extend-none x (behind-less key (key x) (key g.first) hs f a.0) s) (skip (idle-alone x e) (both s))
        go Equal f r = both s
        go Greater f r = both r
    extend-sub x e a (skip {g} {fs} {hs} i s) = go (order (key x) (key g.first)) refl (extend-sub x e a.1 s)
      where
        go : (o : Ordering) → order (key x) (key g.first) ≡ o → Sub (extend key x fs) (enter key x hs)
            → Sub (extend key x fs) (by_order o (alone x ∷ g ∷ hs) (joined g x ∷ hs) (g ∷ enter key x hs))
        go Less f r = rw (extend-none x (behind-less key (key x) (key g.first) hs f a.0) s) (skip (idle-alone x e) (skip i s))
        go Equal f r =
            let k : key x ≡ key g.first = order-equal (key x) (key g.first) f in
            rw (extend-none x (rw k a.0) s) (skip (idle-joined g x e i) s)
        go Greater f r = skip i r

    -- none of the records is external
    abbrev pub AllIdle : List ℕ → Type 0
    AllIdle [] = Unit {0}
    AllIdle (x ∷ xs) = (external x ≡ false) × AllIdle xs

    extend_all-sub : (xs : List ℕ) (fs hs : List Group) → AllIdle xs → KeysAscend key hs → Sub fs hs → Sub (extend_all key fs xs) (enter_all key hs xs)
    unfolding extend_all enter_all
    extend_all-sub [] fs hs i a s = s
    extend_all-sub (x ∷ xs) fs hs i a s = extend_all-sub xs (extend key x fs) (enter key x hs) i.1 (enter-ascends key x hs a) (extend-sub x i.0 a s)

-- ---- a model's groups

module _ (key : ℕ → List ℕ) (m : Model) where
  idle-faults : (g : Group) → Idle key (member_external m) g → group_faults m g ≡ []
  unfolding group_faults
  idle-faults g i = rw i

  sub-faults : {fs hs : List Group} → Sub key (member_external m) fs hs → groups_faults m fs ≡ groups_faults m hs
  unfolding groups_faults
  sub-faults none = refl
  sub-faults (both {g} s) = ap (λ l. group_faults m g ++ l) (sub-faults s)
  sub-faults (skip {g} i s) = rw (idle-faults g i) (sub-faults s)

  -- adding idle members to existing groups only, or letting them open groups too
  pub extended-faults : (gs : List Group) (xs : List ℕ) → AllIdle key (member_external m) xs → KeysAscend key gs
      → groups_faults m (extend_all key gs xs) ≡ groups_faults m (enter_all key gs xs)
  extended-faults gs xs i a = sub-faults (extend_all-sub key (member_external m) xs gs gs i a (sub_same key (member_external m) gs))

  -- where no member is external, nothing is reported
  pub none-external : (gs : List Group) → ((x : ℕ) → member_external m x ≡ false) → groups_faults m gs ≡ []
  unfolding groups_faults any
  none-external [] h = refl
  none-external (g ∷ gs) h = rw (idle-faults g (idle (members g))) (none-external gs h)
    where
      idle : (xs : List ℕ) → any (member_external m) xs ≡ false
      idle [] = refl
      idle (x ∷ xs) = rw (h x) (idle xs)
