-- Members of a bucket that isn't crowded make no difference to the report: a group of theirs has one member, or no external one.
use mathlib.Core.Path.{◌≡◌, refl, sym, ap, ◌∙◌}
use mathlib.Core.Bool.{Bool, true, false, cond, ◌&&◌, and-false}
use mathlib.Core.List.{List, [], ◌∷◌, ◌++◌}
use Prim.Native.Nat.{ℕ, zero, suc}
use lib.Dec.{eqb, ltb}
use lib.ListN.{length}
use borrow.Author.Tests.{eq-eqb}
use Rattle.base.specs.Lists.{each, steps, any, only, keep}
use Rattle.base.proofs.Lists.{any_append}
use Rattle.oce_model.specs.Texts.{order}
use Rattle.oce_model.specs.Model.{Model}
use Rattle.std.specs.declared.cmp.Ordering.{Ordering}
use Rattle.std.specs.declared.cmp.Ordering.TheVariants.{Less, Equal, Greater}
use Rattle.sorting.specs.Sort.{sorted}
use Rattle.crossed_sort.specs.Sort.{goes_first}
use Rattle.oce_model.proofs.Order.{order-equal}
use Rattle.crossed_bounds.specs.Groups.{Group, members, alone, joined, by_order, enter, enter_all, KeysBehind, KeysAscend}
use Rattle.crossed_bounds.proofs.Groups.{behind-less, enter_all-ascends, enter_all-append}
use Rattle.crossed_bounds.specs.CrossedBounds.{member_external, member_key, group_faults, groups_faults}
use Rattle.crossed_members.specs.Members.{member_joins, joining}
use Rattle.crossed_buckets.specs.declared.Known.{Known}
use Rattle.crossed_buckets.specs.declared.Known.TheVariants.{Empty, OneInner, SeveralInner, OneExternal, Crowded}
use Rattle.crossed_buckets.specs.Buckets.{bucket_of, crowded, noted, member_bucket, after_member, known, is_crowded, crowded_below, crowded_members}
use Rattle.crossed_domains.specs.Runs.{runs}
use Rattle.crossed_domains.proofs.Runs.{runs-sorted}

-- ---- groups of a test on their keys

module _ (key : ℕ → List ℕ) (p : List ℕ → Bool) where
  -- the groups whose key passes the test
  abbrev passing : List Group → List Group
  passing gs = keep (λ g. p (key g.first)) gs

  -- a member whose key doesn't pass leaves them as they were
  enter-dropped : (x : ℕ) (gs : List Group) → p (key x) ≡ false → passing (enter key x gs) ≡ passing gs
  unfolding enter keep
  enter-dropped x [] e = rw e
  enter-dropped x (g ∷ gs) e = go (order (key x) (key g.first)) refl (enter-dropped x gs e)
    where
      go : (o : Ordering) → order (key x) (key g.first) ≡ o → passing (enter key x gs) ≡ passing gs
          → passing (by_order o (alone x ∷ g ∷ gs) (joined g x ∷ gs) (g ∷ enter key x gs)) ≡ passing (g ∷ gs)
      go Less f h = rw e
      go Equal f h = let z : p (key g.first) ≡ false = rw (← order-equal (key x) (key g.first) f) e in rw z
      go Greater f h = rw h

  -- x's key is below all groups
  enter-first : (x : ℕ) (gs : List Group) → KeysBehind key (key x) gs → enter key x (passing gs) ≡ alone x ∷ passing gs
  unfolding enter keep
  enter-first x [] a = refl
  enter-first x (g ∷ gs) a = go (p (key g.first)) (enter-first x gs a.1)
    where
      go : (t : Bool) → enter key x (passing gs) ≡ alone x ∷ passing gs → enter key x (cond t (g ∷ passing gs) (passing gs)) ≡ alone x ∷ cond t (g ∷ passing gs) (passing gs)
      go true h = rw a.0
      go false h = h

  -- a member whose key passes enters them as it enters all
  enter-passing : (x : ℕ) (gs : List Group) → p (key x) ≡ true → KeysAscend key gs → passing (enter key x gs) ≡ enter key x (passing gs)
  unfolding enter keep
  enter-passing x [] e a = rw e
  enter-passing x (g ∷ gs) e a = go (order (key x) (key g.first)) (p (key g.first)) refl refl (enter-passing x gs e a.1)
    where
      go : (o : Ordering) (t : Bool) → order (key x) (key g.first) ≡ o → p (key g.first) ≡ t → passing (enter key x gs) ≡ enter key x (passing gs)
          → passing (by_order o (alone x ∷ g ∷ gs) (joined g x ∷ gs) (g ∷ enter key x gs)) ≡ enter key x (cond t (g ∷ passing gs) (passing gs))
      go Less true f i h = rw (e, i, f)
      go Less false f i h = rw (e, i) (sym (enter-first x gs (behind-less key (key x) (key g.first) gs f a.0)))
      go Equal t f i h =
          let z : p (key g.first) ≡ true = rw (← order-equal (key x) (key g.first) f) e in
          let y : t ≡ true = sym i ∙ z in
          rw (y, z, f)
      go Greater true f i h = rw (i, f, h)
      go Greater false f i h = rw i h

-- ---- what a group's members are, by what is known of their bucket

module _ (external : ℕ → Bool) where
  abbrev Told : Known → Group → Type 0
  Told Empty g = ⊥
  Told OneInner g = any external (members g) ≡ false
  Told SeveralInner g = any external (members g) ≡ false
  Told OneExternal g = g.others ≡ []
  Told Crowded g = Unit {0}

  -- a member x comes into the bucket
  told-alone : (k : Known) (x : ℕ) → Told (noted k (external x)) (alone x)
  unfolding any noted
  told-alone k x = go k (external x) refl
    where
      go : (k : Known) (t : Bool) → external x ≡ t → Told (noted k t) (alone x)
      go Empty true e = refl
      go Empty false e = rw e
      go OneInner true e = tt
      go OneInner false e = rw e
      go SeveralInner true e = tt
      go SeveralInner false e = rw e
      go OneExternal t e = tt
      go Crowded t e = tt

  told-other : (k : Known) (x : ℕ) (g : Group) → Told k g → Told (noted k (external x)) g
  unfolding noted
  told-other k x g a = go k (external x) a
    where
      go : (k : Known) (t : Bool) → Told k g → Told (noted k t) g
      go Empty t a = absurd a
      go OneInner true a = tt
      go OneInner false a = a
      go SeveralInner true a = tt
      go SeveralInner false a = a
      go OneExternal t a = tt
      go Crowded t a = tt

  told-joined : (k : Known) (x : ℕ) (g : Group) → Told k g → Told (noted k (external x)) (joined g x)
  unfolding any noted
  told-joined k x g a = go k (external x) refl a
    where
      more : external x ≡ false → any external (members g) ≡ false → any external (members (joined g x)) ≡ false
      more e a = any_append external (members g) (x ∷ []) ∙ rw (a, e)

      go : (k : Known) (t : Bool) → external x ≡ t → Told k g → Told (noted k t) (joined g x)
      go Empty t e a = absurd a
      go OneInner true e a = tt
      go OneInner false e a = more e a
      go SeveralInner true e a = tt
      go SeveralInner false e a = more e a
      go OneExternal t e a = tt
      go Crowded t e a = tt

  module _ (key : ℕ → List ℕ) where
    -- f b is known of bucket b
    abbrev AllTold : (ℕ → Known) → List Group → Type 0
    AllTold f [] = Unit {0}
    AllTold f (g ∷ gs) = Told (f (bucket_of (key g.first))) g × AllTold f gs

    module _ (x : ℕ) (f : ℕ → Known) where
      -- what is known with x
      abbrev with : ℕ → Known
      with b = cond (eqb (bucket_of (key x)) b) (noted (f b) (external x)) (f b)

      told_with : (g : Group) → Told (f (bucket_of (key g.first))) g → Told (with (bucket_of (key g.first))) g
      told_with g t = go (eqb (bucket_of (key x)) (bucket_of (key g.first)))
        where
          k : Known
          k = f (bucket_of (key g.first))

          go : (u : Bool) → Told (cond u (noted k (external x)) k) g
          go true = told-other k x g t
          go false = t

      all-with : (gs : List Group) → AllTold f gs → AllTold with gs
      all-with [] a = tt
      all-with (g ∷ gs) a = (told_with g a.0, all-with gs a.1)

      own : (g : Group) → Told (noted (f (bucket_of (key x))) (external x)) g → Told (with (bucket_of (key x))) g
      own g t = rw (eq-eqb (bucket_of (key x)) (bucket_of (key x)) refl) t

      enter-told : (gs : List Group) → AllTold f gs → AllTold with (enter key x gs)
      unfolding enter
      enter-told [] a = (own (alone x) (told-alone (f (bucket_of (key x))) x), tt)
      enter-told (g ∷ gs) a = go (order (key x) (key g.first)) refl (enter-told gs a.1)
        where
          go : (o : Ordering) → order (key x) (key g.first) ≡ o → AllTold with (enter key x gs)
              → AllTold with (by_order o (alone x ∷ g ∷ gs) (joined g x ∷ gs) (g ∷ enter key x gs))
          go Less e h = (own (alone x) (told-alone (f (bucket_of (key x))) x), all-with (g ∷ gs) a)
          go Equal e h =
              let q : key x ≡ key g.first = order-equal (key x) (key g.first) e in
              let t : Told (f (bucket_of (key x))) g = rw q a.0 in
              (rw (← q) (own (joined g x) (told-joined (f (bucket_of (key x))) x g t)), all-with gs a.1)
          go Greater e h = (told_with g a.0, h)

-- ---- a model's groups

module _ (m : Model) where
  -- the groups of the first n members
  abbrev entered : ℕ → List Group
  entered n = enter_all (member_key m) [] (joining m n)

  told : (n : ℕ) → AllTold (member_external m) (member_key m) (known m n) (entered n)
  unfolding joining each enter_all known steps after_member member_bucket
  told zero = tt
  told (suc n) = rw (enter_all-append (member_key m) [] (joining m n) (only (member_joins m n) n)) (go (member_joins m n) (told n))
    where
      go : (t : Bool) → AllTold (member_external m) (member_key m) (known m n) (entered n)
          → AllTold (member_external m) (member_key m) (λ b. cond (t && eqb (member_bucket m n) b) (noted (known m n b) (member_external m n)) (known m n b)) (enter_all (member_key m) (entered n) (only t n))
      go true a = enter-told (member_external m) (member_key m) n (known m n) (entered n) a
      go false a = a

  -- after n members, the bucket of the key is crowded
  abbrev in_crowd : ℕ → List ℕ → Bool
  in_crowd n k = crowded (known m n (bucket_of k))

  -- the groups of crowded members are those groups whose bucket is crowded
  crowded-groups : (n i : ℕ) → enter_all (member_key m) [] (crowded_below m n i) ≡ passing (member_key m) (in_crowd n) (entered i)
  unfolding joining crowded_below is_crowded member_bucket each enter_all keep
  crowded-groups n zero = refl
  crowded-groups n (suc i) =
      rw (enter_all-append (member_key m) [] (joining m i) (only (member_joins m i) i), enter_all-append (member_key m) [] (crowded_below m n i) (only (is_crowded m n i) i), crowded-groups n i)
      (go (member_joins m i) (in_crowd n (member_key m i)) refl)
    where
      pass : List Group → List Group
      pass = passing (member_key m) (in_crowd n)

      go : (t u : Bool) → in_crowd n (member_key m i) ≡ u → enter_all (member_key m) (pass (entered i)) (only (t && u) i) ≡ pass (enter_all (member_key m) (entered i) (only t i))
      go true true e = sym (enter-passing (member_key m) (in_crowd n) i (entered i) e (enter_all-ascends (member_key m) [] (joining m i) tt))
      go true false e = sym (enter-dropped (member_key m) (in_crowd n) i (entered i) e)
      go false u e = refl

  -- a group of one member isn't reported
  single-faults : (g : Group) → g.others ≡ [] → group_faults m g ≡ []
  unfolding group_faults
  single-faults g e = let l : ltb 1 (length (members g)) ≡ false = ap (λ xs. ltb 1 (suc (length xs))) e in rw (l, and-false)

  told-faults : (k : Known) (g : Group) → Told (member_external m) k g → crowded k ≡ false → group_faults m g ≡ []
  unfolding group_faults
  told-faults Empty g t e = absurd t
  told-faults OneInner g t e = rw t
  told-faults SeveralInner g t e = rw t
  told-faults OneExternal g t e = single-faults g t
  told-faults Crowded g t e = absurd (cc)

  passing-faults : (n : ℕ) (gs : List Group) → AllTold (member_external m) (member_key m) (known m n) gs → groups_faults m (passing (member_key m) (in_crowd n) gs) ≡ groups_faults m gs
  unfolding groups_faults keep
  passing-faults n [] a = refl
  passing-faults n (g ∷ gs) a = go (in_crowd n (member_key m g.first)) refl (passing-faults n gs a.1)
    where
      pass : List Group → List Group
      pass = passing (member_key m) (in_crowd n)

      go : (t : Bool) → in_crowd n (member_key m g.first) ≡ t → groups_faults m (pass gs) ≡ groups_faults m gs
          → groups_faults m (cond t (g ∷ pass gs) (pass gs)) ≡ group_faults m g ++ groups_faults m gs
      go true e h = rw h
      go false e h = rw (told-faults (known m n (bucket_of (member_key m g.first))) g a.0 e) h

  -- crowded members alone give the same report as all that take part
  pub crowded-faults : (n : ℕ) → groups_faults m (runs (member_key m) (sorted (goes_first (member_key m)) (crowded_members m n))) ≡ groups_faults m (runs (member_key m) (sorted (goes_first (member_key m)) (joining m n)))
  crowded-faults n =
      rw (runs-sorted (member_key m) (crowded_members m n), runs-sorted (member_key m) (joining m n), crowded-groups n n) (passing-faults n (entered n) (told n))
