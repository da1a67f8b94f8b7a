-- What the groups of rule 5.4 are, told by their keys (FORMAT 14): the keys ascend, a group has exactly the members with its key, and every In with an iri is in one.
use Prim.Native.Nat.{ℕ, ◌<◌}
use mathlib.Core.Path.{◌≡◌, refl, sym, ap, subst, ◌∙◌}
use mathlib.Core.Bool.{Bool, true, false, cond, ◌||◌, or-true, false≢true}
use mathlib.Core.Logic.{◌⊎◌, inl, inr}
use mathlib.Core.List.{List, [], ◌∷◌, ◌++◌, append-nil, append_assoc, Memᴰ}
use Rattle.base.specs.Lists.{keep, any, only, same}
use Rattle.base.proofs.Lists.{keep_append, same_refl, same-sound}
use Rattle.base.proofs.Members.{mem-each, mem-only}
use Rattle.oce_model.specs.Texts.{order, is_equal}
use Rattle.oce_model.specs.Model.{Model, connector, connector_count}
use Rattle.std.specs.declared.cmp.Ordering.{Ordering}
use Rattle.std.specs.declared.cmp.Ordering.TheVariants.{Less, Equal, Greater}
use Rattle.oce_model.proofs.Order.{order_flip, flip, order-equal, less-less, equal-same, less-differs}
use Rattle.crossed_bounds.specs.Groups.{Group, members, alone, joined, by_order, enter, enter_all, extend, extend_all, with_key, KeysBehind, KeysAscend}
use Rattle.crossed_bounds.specs.CrossedBounds.{member_key, joins, connector_members, input_members, groups}

-- a group is its members
of_members : (g h : Group) → members g ≡ members h → g ≡ h
of_members g h e = ap group e
  where
    group : List ℕ → Group
    group [] = alone 0
    group (x ∷ xs) = record { first = x; others = xs }

module _ (key : ℕ → List ℕ) where
  -- ---- keys ascend, whoever joins

  pub behind-less : (j k : List ℕ) (gs : List Group) → order j k ≡ Less → KeysBehind key k gs → KeysBehind key j gs
  behind-less j k [] e a = tt
  behind-less j k (g ∷ gs) e a = (less-less j k (key g.first) e a.0, behind-less j k gs e a.1)

  behind-enter : (k : List ℕ) (x : ℕ) (gs : List Group) → order k (key x) ≡ Less → KeysBehind key k gs → KeysBehind key k (enter key x gs)
  unfolding enter
  behind-enter k x [] e a = (e, tt)
  behind-enter k x (g ∷ gs) e a = go (order (key x) (key g.first)) (behind-enter k x gs e a.1)
    where
      go : (o : Ordering) → KeysBehind key k (enter key x gs) → KeysBehind key k (by_order o (alone x ∷ g ∷ gs) (joined g x ∷ gs) (g ∷ enter key x gs))
      go Less f = (e, a)
      go Equal f = a
      go Greater f = (a.0, f)

  pub enter-ascends : (x : ℕ) (gs : List Group) → KeysAscend key gs → KeysAscend key (enter key x gs)
  unfolding enter
  enter-ascends x [] a = (tt, tt)
  enter-ascends x (g ∷ gs) a = go (order (key x) (key g.first)) refl (enter-ascends x gs a.1)
    where
      go : (o : Ordering) → order (key x) (key g.first) ≡ o → KeysAscend key (enter key x gs) → KeysAscend key (by_order o (alone x ∷ g ∷ gs) (joined g x ∷ gs) (g ∷ enter key x gs))
      go Less e f = ((e, behind-less (key x) (key g.first) gs e a.0), a)
      go Equal e f = a
      go Greater e f = (behind-enter (key g.first) x gs (order_flip (key x) (key g.first) ∙ ap flip e) a.0, f)

  pub enter_all-ascends : (gs : List Group) (xs : List ℕ) → KeysAscend key gs → KeysAscend key (enter_all key gs xs)
  unfolding enter_all
  enter_all-ascends gs [] a = a
  enter_all-ascends gs (x ∷ xs) a = enter_all-ascends (enter key x gs) xs (enter-ascends x gs a)

  behind-extend : (k : List ℕ) (x : ℕ) (gs : List Group) → KeysBehind key k gs → KeysBehind key k (extend key x gs)
  unfolding extend
  behind-extend k x [] a = tt
  behind-extend k x (g ∷ gs) a = go (is_equal (order (key x) (key g.first))) (behind-extend k x gs a.1)
    where
      go : (t : Bool) → KeysBehind key k (extend key x gs) → KeysBehind key k (cond t (joined g x ∷ gs) (g ∷ extend key x gs))
      go true f = a
      go false f = (a.0, f)

  extend-ascends : (x : ℕ) (gs : List Group) → KeysAscend key gs → KeysAscend key (extend key x gs)
  unfolding extend
  extend-ascends x [] a = tt
  extend-ascends x (g ∷ gs) a = go (is_equal (order (key x) (key g.first))) (extend-ascends x gs a.1)
    where
      go : (t : Bool) → KeysAscend key (extend key x gs) → KeysAscend key (cond t (joined g x ∷ gs) (g ∷ extend key x gs))
      go true f = a
      go false f = (behind-extend (key g.first) x gs a.0, f)

  extend_all-ascends : (gs : List Group) (xs : List ℕ) → KeysAscend key gs → KeysAscend key (extend_all key gs xs)
  unfolding extend_all
  extend_all-ascends gs [] a = a
  extend_all-ascends gs (x ∷ xs) a = extend_all-ascends (extend key x gs) xs (extend-ascends x gs a)

  -- those who join in two parts
  pub enter_all-append : (gs : List Group) (xs ys : List ℕ) → enter_all key gs (xs ++ ys) ≡ enter_all key (enter_all key gs xs) ys
  unfolding enter_all
  enter_all-append gs [] ys = refl
  enter_all-append gs (x ∷ xs) ys = enter_all-append (enter key x gs) xs ys

  -- ---- all members of the groups with the key k

  module _ (k : List ℕ) where
    unfoldable gathered : List Group → List ℕ
    gathered [] = []
    gathered (g ∷ gs) = cond (same k (key g.first)) (members g) [] ++ gathered gs

    -- there is such a group
    abbrev has : List Group → Bool
    has gs = any (λ g. same k (key g.first)) gs

    gathered-behind : (gs : List Group) → KeysBehind key k gs → gathered gs ≡ []
    unfolding gathered
    gathered-behind [] a = refl
    gathered-behind (g ∷ gs) a = rw (less-differs k (key g.first) a.0) (gathered-behind gs a.1)

    -- x joins g, the group of its key
    joined-gathered : (x : ℕ) (g : Group) (gs : List Group) → key x ≡ key g.first → KeysBehind key (key g.first) gs
        → cond (same k (key g.first)) (members (joined g x)) [] ++ gathered gs ≡ (cond (same k (key g.first)) (members g) [] ++ gathered gs) ++ with_key key k (x ∷ [])
    unfolding with_key keep
    joined-gathered x g gs e a = rw e (go (same k (key g.first)) refl)
      where
        go : (t : Bool) → same k (key g.first) ≡ t → cond t (members (joined g x)) [] ++ gathered gs ≡ (cond t (members g) [] ++ gathered gs) ++ cond t (x ∷ []) []
        go true f =
            let n : gathered gs ≡ [] = gathered-behind gs (rw (same-sound k (key g.first) f) a) in
            rw n (append-nil (members (joined g x)) ∙ sym (ap (λ l. l ++ (x ∷ [])) (append-nil (members g))))
        go false f = sym (append-nil (gathered gs))

    enter-gathered : (x : ℕ) (gs : List Group) → KeysAscend key gs → gathered (enter key x gs) ≡ gathered gs ++ with_key key k (x ∷ [])
    unfolding enter gathered with_key keep
    enter-gathered x [] a = append-nil (with_key key k (x ∷ []))
    enter-gathered x (g ∷ gs) a = go (order (key x) (key g.first)) refl (enter-gathered x gs a.1)
      where
        -- x opens a group, and none behind it has its key
        front : (t : Bool) → same k (key x) ≡ t → KeysBehind key (key x) (g ∷ gs) → cond t (x ∷ []) [] ++ gathered (g ∷ gs) ≡ gathered (g ∷ gs) ++ cond t (x ∷ []) []
        front true f b = let n : gathered (g ∷ gs) ≡ [] = gathered-behind (g ∷ gs) (subst (λ j. KeysBehind key j (g ∷ gs)) (sym (same-sound k (key x) f)) b) in rw n
        front false f b = sym (append-nil (gathered (g ∷ gs)))

        go : (o : Ordering) → order (key x) (key g.first) ≡ o → gathered (enter key x gs) ≡ gathered gs ++ with_key key k (x ∷ [])
            → gathered (by_order o (alone x ∷ g ∷ gs) (joined g x ∷ gs) (g ∷ enter key x gs)) ≡ gathered (g ∷ gs) ++ with_key key k (x ∷ [])
        go Less e h = front (same k (key x)) refl (e, behind-less (key x) (key g.first) gs e a.0)
        go Equal e h = joined-gathered x g gs (order-equal (key x) (key g.first) e) a.0
        go Greater e h = rw h (sym (append_assoc (cond (same k (key g.first)) (members g) []) (gathered gs) (with_key key k (x ∷ []))))

    extend-gathered : (x : ℕ) (gs : List Group) → KeysAscend key gs → has gs ≡ true → gathered (extend key x gs) ≡ gathered gs ++ with_key key k (x ∷ [])
    unfolding extend gathered any with_key keep
    extend-gathered x [] a h = absurd (false≢true h)
    extend-gathered x (g ∷ gs) a h = go (order (key x) (key g.first)) refl (same k (key g.first)) refl h (extend-gathered x gs a.1)
      where
        -- g has the key k, and x another
        apart : same k (key g.first) ≡ true → is_equal (order (key x) (key g.first)) ≡ false → with_key key k (x ∷ []) ≡ []
        apart f e = arm (same k (key x)) refl
          where
            arm : (t : Bool) → same k (key x) ≡ t → cond t (x ∷ []) [] ≡ []
            arm true q =
                let z : same (key x) (key g.first) ≡ true = rw (← (same-sound k (key x) q)) f in
                absurd (false≢true (sym e ∙ equal-same (key x) (key g.first) ∙ z))
            arm false q = refl

        stay : (t : Bool) → same k (key g.first) ≡ t → is_equal (order (key x) (key g.first)) ≡ false → (t || has gs) ≡ true → (has gs ≡ true → gathered (extend key x gs) ≡ gathered gs ++ with_key key k (x ∷ []))
            → cond t (members g) [] ++ gathered (extend key x gs) ≡ (cond t (members g) [] ++ gathered gs) ++ with_key key k (x ∷ [])
        stay true f e h r =
            let q : k ≡ key g.first = same-sound k (key g.first) f in
            let b : KeysBehind key k gs = rw q a.0 in
            rw (gathered-behind gs b, gathered-behind (extend key x gs) (behind-extend k x gs b), apart f e) (sym (append-nil (members g ++ [])))
        stay false f e h r = r h

        go : (o : Ordering) → order (key x) (key g.first) ≡ o → (t : Bool) → same k (key g.first) ≡ t → (t || has gs) ≡ true → (has gs ≡ true → gathered (extend key x gs) ≡ gathered gs ++ with_key key k (x ∷ []))
            → gathered (cond (is_equal o) (joined g x ∷ gs) (g ∷ extend key x gs)) ≡ gathered (g ∷ gs) ++ with_key key k (x ∷ [])
        go Equal e t f h r = joined-gathered x g gs (order-equal (key x) (key g.first) e) a.0
        go Less e t f h r = rw f (stay t f (ap is_equal e) h r)
        go Greater e t f h r = rw f (stay t f (ap is_equal e) h r)

    -- extending changes no key
    extend-has : (x : ℕ) (gs : List Group) → has (extend key x gs) ≡ has gs
    unfolding extend any
    extend-has x [] = refl
    extend-has x (g ∷ gs) = go (is_equal (order (key x) (key g.first))) (extend-has x gs)
      where
        go : (t : Bool) → has (extend key x gs) ≡ has gs → has (cond t (joined g x ∷ gs) (g ∷ extend key x gs)) ≡ has (g ∷ gs)
        go true r = refl
        go false r = rw r

    extend_all-has : (gs : List Group) (xs : List ℕ) → has (extend_all key gs xs) ≡ has gs
    unfolding extend_all
    extend_all-has gs [] = refl
    extend_all-has gs (x ∷ xs) = extend_all-has (extend key x gs) xs ∙ extend-has x gs

    -- ---- those who joined are those with the key

    pub with_key-nil : with_key key k [] ≡ []
    unfolding with_key keep
    with_key-nil = refl

    pub with_key-cons : (x : ℕ) (xs : List ℕ) → with_key key k (x ∷ xs) ≡ with_key key k (x ∷ []) ++ with_key key k xs
    unfolding with_key keep
    with_key-cons x xs = go (same k (key x))
      where
        go : (t : Bool) → cond t (x ∷ with_key key k xs) (with_key key k xs) ≡ cond t (x ∷ []) [] ++ with_key key k xs
        go true = refl
        go false = refl

    enter_all-gathered : (gs : List Group) (xs : List ℕ) → KeysAscend key gs → gathered (enter_all key gs xs) ≡ gathered gs ++ with_key key k xs
    unfolding enter_all
    enter_all-gathered gs [] a = rw with_key-nil (sym (append-nil (gathered gs)))
    enter_all-gathered gs (x ∷ xs) a =
        enter_all-gathered (enter key x gs) xs (enter-ascends x gs a) ∙ rw (enter-gathered x gs a, with_key-cons x xs) (append_assoc (gathered gs) (with_key key k (x ∷ [])) (with_key key k xs))

    extend_all-gathered : (gs : List Group) (xs : List ℕ) → KeysAscend key gs → has gs ≡ true → gathered (extend_all key gs xs) ≡ gathered gs ++ with_key key k xs
    unfolding extend_all
    extend_all-gathered gs [] a h = rw with_key-nil (sym (append-nil (gathered gs)))
    extend_all-gathered gs (x ∷ xs) a h =
        extend_all-gathered (extend key x gs) xs (extend-ascends x gs a) (extend-has x gs ∙ h)
        ∙ rw (extend-gathered x gs a h, with_key-cons x xs) (append_assoc (gathered gs) (with_key key k (x ∷ [])) (with_key key k xs))

    -- one of the groups has whoever is gathered
    gathered-in : (x : ℕ) (gs : List Group) → Memᴰ x (gathered gs) → (g : Group) × Memᴰ g gs × Memᴰ x (members g)
    unfolding gathered
    gathered-in x [] p = absurd (mathlib.Core.List.Memᴰ.not-nil p)
    gathered-in x (g ∷ gs) p = arm (mathlib.Core.List.Memᴰ.append_cases (cond (same k (key g.first)) (members g) []) p) (gathered-in x gs)
      where
        here : (t : Bool) → Memᴰ x (cond t (members g) []) → Memᴰ x (members g)
        here true q = q
        here false q = absurd (mathlib.Core.List.Memᴰ.not-nil q)

        arm : Memᴰ x (cond (same k (key g.first)) (members g) []) ⊎ Memᴰ x (gathered gs) → (Memᴰ x (gathered gs) → (h : Group) × Memᴰ h gs × Memᴰ x (members h))
            → (h : Group) × Memᴰ h (g ∷ gs) × Memᴰ x (members h)
        arm (inl q) r = (g, mathlib.Core.List.Memᴰ.head refl, here (same k (key g.first)) q)
        arm (inr q) r = let w = r q in (w.0, mathlib.Core.List.Memᴰ.tail w.1, w.2)

    -- where nobody has the key, nobody is gathered
    gathered_none : (gs : List Group) → has gs ≡ false → gathered gs ≡ []
    unfolding gathered any
    gathered_none [] h = refl
    gathered_none (g ∷ gs) h = go (same k (key g.first)) h (gathered_none gs)
      where
        go : (t : Bool) → (t || has gs) ≡ false → (has gs ≡ false → gathered gs ≡ []) → cond t (members g) [] ++ gathered gs ≡ []
        go true q r = absurd (false≢true (sym q))
        go false q r = r q

    gathered-has : (x : ℕ) (gs : List Group) → Memᴰ x (gathered gs) → has gs ≡ true
    gathered-has x gs p = go (has gs) refl
      where
        go : (t : Bool) → has gs ≡ t → t ≡ true
        go true h = refl
        go false h = absurd (mathlib.Core.List.Memᴰ.not-nil (rw (gathered_none gs h) at p))

  -- a group of ascending keys is all that has its key
  behind-mem : (k : List ℕ) (g : Group) (gs : List Group) → KeysBehind key k gs → Memᴰ g gs → order k (key g.first) ≡ Less
  behind-mem k g [] a p = absurd (mathlib.Core.List.Memᴰ.not-nil p)
  behind-mem k g (h ∷ gs) a p = arm (mathlib.Core.List.Memᴰ.cases_cons p) (behind-mem k g gs a.1)
    where
      arm : (g ≡ h) ⊎ Memᴰ g gs → (Memᴰ g gs → order k (key g.first) ≡ Less) → order k (key g.first) ≡ Less
      arm (inl e) r = rw e a.0
      arm (inr q) r = r q

  own-gathered : (g : Group) (gs : List Group) → KeysAscend key gs → Memᴰ g gs → gathered (key g.first) gs ≡ members g
  unfolding gathered
  own-gathered g [] a p = absurd (mathlib.Core.List.Memᴰ.not-nil p)
  own-gathered g (h ∷ gs) a p = arm (mathlib.Core.List.Memᴰ.cases_cons p) (own-gathered g gs a.1)
    where
      arm : (g ≡ h) ⊎ Memᴰ g gs → (Memᴰ g gs → gathered (key g.first) gs ≡ members g)
          → cond (same (key g.first) (key h.first)) (members h) [] ++ gathered (key g.first) gs ≡ members g
      arm (inl e) r = rw (e, same_refl (key h.first), gathered-behind (key h.first) gs a.0) (append-nil (members h))
      arm (inr q) r =
          let l : order (key h.first) (key g.first) ≡ Less = behind-mem (key h.first) g gs a.0 q in
          let m : order (key g.first) (key h.first) ≡ Greater = order_flip (key h.first) (key g.first) ∙ ap flip l in
          let n : same (key g.first) (key h.first) ≡ false = sym (equal-same (key g.first) (key h.first)) ∙ ap is_equal m in
          rw n (r q)

  own-has : (g : Group) (gs : List Group) → Memᴰ g gs → has (key g.first) gs ≡ true
  unfolding any
  own-has g [] p = absurd (mathlib.Core.List.Memᴰ.not-nil p)
  own-has g (h ∷ gs) p = arm (mathlib.Core.List.Memᴰ.cases_cons p) (own-has g gs)
    where
      arm : (g ≡ h) ⊎ Memᴰ g gs → (Memᴰ g gs → has (key g.first) gs ≡ true) → (same (key g.first) (key h.first) || has (key g.first) gs) ≡ true
      arm (inl e) r = rw (e, same_refl (key h.first))
      arm (inr q) r = rw (r q) (or-true (same (key g.first) (key h.first)))

  -- ---- a group is opened by its first member

  -- what P holds of
  abbrev All : (ℕ → Type 0) → List ℕ → Type 0
  All P [] = Unit {0}
  All P (x ∷ xs) = P x × All P xs

  abbrev Firsts : (ℕ → Type 0) → List Group → Type 0
  Firsts P [] = Unit {0}
  Firsts P (g ∷ gs) = P g.first × Firsts P gs

  module _ (P : ℕ → Type 0) where
    enter-firsts : (x : ℕ) (gs : List Group) → P x → Firsts P gs → Firsts P (enter key x gs)
    unfolding enter
    enter-firsts x [] p f = (p, tt)
    enter-firsts x (g ∷ gs) p f = go (order (key x) (key g.first)) (enter-firsts x gs p f.1)
      where
        go : (o : Ordering) → Firsts P (enter key x gs) → Firsts P (by_order o (alone x ∷ g ∷ gs) (joined g x ∷ gs) (g ∷ enter key x gs))
        go Less r = (p, f)
        go Equal r = f
        go Greater r = (f.0, r)

    enter_all-firsts : (gs : List Group) (xs : List ℕ) → All P xs → Firsts P gs → Firsts P (enter_all key gs xs)
    unfolding enter_all
    enter_all-firsts gs [] p f = f
    enter_all-firsts gs (x ∷ xs) p f = enter_all-firsts (enter key x gs) xs p.1 (enter-firsts x gs p.0 f)

    extend-firsts : (x : ℕ) (gs : List Group) → Firsts P gs → Firsts P (extend key x gs)
    unfolding extend
    extend-firsts x [] f = tt
    extend-firsts x (g ∷ gs) f = go (is_equal (order (key x) (key g.first))) (extend-firsts x gs f.1)
      where
        go : (t : Bool) → Firsts P (extend key x gs) → Firsts P (cond t (joined g x ∷ gs) (g ∷ extend key x gs))
        go true r = f
        go false r = (f.0, r)

    extend_all-firsts : (gs : List Group) (xs : List ℕ) → Firsts P gs → Firsts P (extend_all key gs xs)
    unfolding extend_all
    extend_all-firsts gs [] f = f
    extend_all-firsts gs (x ∷ xs) f = extend_all-firsts (extend key x gs) xs (extend-firsts x gs f)

    firsts-mem : (g : Group) (gs : List Group) → Firsts P gs → Memᴰ g gs → P g.first
    firsts-mem g [] f p = absurd (mathlib.Core.List.Memᴰ.not-nil p)
    firsts-mem g (h ∷ gs) f p = arm (mathlib.Core.List.Memᴰ.cases_cons p) (firsts-mem g gs f.1)
      where
        arm : (g ≡ h) ⊎ Memᴰ g gs → (Memᴰ g gs → P g.first) → P g.first
        arm (inl e) r = rw e f.0
        arm (inr q) r = r q

  all-mem : (ys xs : List ℕ) → ((x : ℕ) → Memᴰ x ys → Memᴰ x xs) → All (λ x. Memᴰ x xs) ys
  all-mem [] xs f = tt
  all-mem (y ∷ ys) xs f = (f y (mathlib.Core.List.Memᴰ.head refl), all-mem ys xs (λ x p. f x (mathlib.Core.List.Memᴰ.tail p)))

  -- a member has its own key
  with_key-own : (x : ℕ) (xs : List ℕ) → Memᴰ x xs → Memᴰ x (with_key key (key x) xs)
  unfolding with_key keep
  with_key-own x [] p = absurd (mathlib.Core.List.Memᴰ.not-nil p)
  with_key-own x (y ∷ ys) p = rw (with_key-cons (key x) y ys) (arm (mathlib.Core.List.Memᴰ.cases_cons p) (with_key-own x ys))
    where
      arm : (x ≡ y) ⊎ Memᴰ x ys → (Memᴰ x ys → Memᴰ x (with_key key (key x) ys)) → Memᴰ x (with_key key (key x) (y ∷ []) ++ with_key key (key x) ys)
      arm (inl e) r =
          let q : Memᴰ x (with_key key (key x) (y ∷ [])) = rw (← e, same_refl (key x)) (mathlib.Core.List.Memᴰ.head refl) in
          mathlib.Core.List.Memᴰ.append_left (with_key key (key x) ys) q
      arm (inr q) r = mathlib.Core.List.Memᴰ.append_right (with_key key (key x) (y ∷ [])) (r q)

  -- ---- xs join, then ys where there is a group

  module _ (xs ys : List ℕ) where
    abbrev before : List Group
    before = enter_all key [] xs

    abbrev after : List Group
    after = extend_all key before ys

    before-ascends : KeysAscend key before
    before-ascends = enter_all-ascends [] xs tt

    pub grouped-ascend : KeysAscend key after
    grouped-ascend = extend_all-ascends before ys before-ascends

    before-gathered : (k : List ℕ) → gathered k before ≡ with_key key k xs
    unfolding gathered
    before-gathered k = enter_all-gathered k [] xs tt

    after-gathered : (k : List ℕ) → has k before ≡ true → gathered k after ≡ with_key key k (xs ++ ys)
    unfolding with_key
    after-gathered k h = extend_all-gathered k before ys before-ascends h ∙ rw (before-gathered k) (sym (keep_append (λ x. same k (key x)) xs ys))

    pub grouped-exact : (g : Group) → Memᴰ g after → members g ≡ with_key key (key g.first) (xs ++ ys)
    grouped-exact g p =
        let k = key g.first in
        sym (own-gathered g after grouped-ascend p) ∙ after-gathered k (sym (extend_all-has k before ys) ∙ own-has g after p)

    pub grouped-distinct : (g h : Group) → Memᴰ g after → Memᴰ h after → key g.first ≡ key h.first → g ≡ h
    grouped-distinct g h p q e = of_members g h (grouped-exact g p ∙ ap (λ k. with_key key k (xs ++ ys)) e ∙ sym (grouped-exact h q))

    pub grouped-opened : (g : Group) → Memᴰ g after → Memᴰ g.first xs
    grouped-opened g p =
        let P : ℕ → Type 0 = λ x. Memᴰ x xs in
        firsts-mem P g after (extend_all-firsts P before ys (enter_all-firsts P [] xs (all-mem xs xs (λ x q. q)) tt)) p

    pub grouped-in : (x : ℕ) → Memᴰ x xs → (g : Group) × Memᴰ g after × Memᴰ x (members g)
    unfolding with_key
    grouped-in x p =
        let q : Memᴰ x (gathered (key x) before) = rw (before-gathered (key x)) (with_key-own x xs p) in
        let h : has (key x) before ≡ true = gathered-has (key x) x before q in
        gathered-in (key x) x after (rw (after-gathered (key x) h) (with_key-own x (xs ++ ys) (mathlib.Core.List.Memᴰ.append_left ys p)))

-- ---- a model's groups

pub record ByKey (m : Model) : Type 0 where
  -- the keys ascend by their bytes
  pub ascend : KeysAscend (member_key m) (groups m)
  -- the members of a group are exactly those with its key: of the Ins with an iri, and behind them of the boundary inputs, in their order
  pub exact : (g : Group) → Memᴰ g (groups m) → members g ≡ with_key (member_key m) (member_key m g.first) (connector_members m ++ input_members m)
  -- two groups with one key are the same
  pub distinct : (g h : Group) → Memᴰ g (groups m) → Memᴰ h (groups m) → member_key m g.first ≡ member_key m h.first → g ≡ h
  -- a group's first member is an In with an iri: a boundary input opens none
  pub opened : (g : Group) → Memᴰ g (groups m) → Memᴰ g.first (connector_members m)
  -- every In with an iri is in a group
  pub everyone : (i : ℕ) → i < connector_count m → joins (connector m i) ≡ true → (g : Group) × Memᴰ g (groups m) × Memᴰ i (members g)

pub by_key : (m : Model) → ByKey m
unfolding groups
by_key m = record {
  ascend = grouped-ascend (member_key m) (connector_members m) (input_members m);
  exact = grouped-exact (member_key m) (connector_members m) (input_members m);
  distinct = grouped-distinct (member_key m) (connector_members m) (input_members m);
  opened = grouped-opened (member_key m) (connector_members m) (input_members m);
  everyone = λ i l j. grouped-in (member_key m) (connector_members m) (input_members m) i (mem-each (connector_count m) (λ i. only (joins (connector m i)) i) i i l (mem-only (joins (connector m i)) i j));
}
