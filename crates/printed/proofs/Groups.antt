-- No group has more members than were entered.
use Prim.Native.Nat.{ℕ, suc, ◌+◌, ◌≤◌}
use native.Mathlib.Omega.{arith}
use mathlib.Core.Path.{◌≡◌, refl}
use mathlib.Core.Logic.{◌⊎◌, inl, inr}
use mathlib.Core.Bool.{Bool, true, false, cond}
use mathlib.Core.List.Memᴰ
use mathlib.Core.List.{List, [], ◌∷◌, Memᴰ}
use lib.ListN.{length, length-append}
use Rattle.oce_model.specs.Texts.{order, is_equal}
use Rattle.std.specs.declared.cmp.Ordering.{Ordering}
use Rattle.std.specs.declared.cmp.Ordering.TheVariants.{Less, Equal, Greater}
use Rattle.crossed_bounds.specs.Groups.{Group, members, alone, joined, by_order, enter, enter_all, extend, extend_all}

-- each group has at most k members
pub record AtMost (k : ℕ) (gs : List Group) : Type 0 where
  pub each : (g : Group) → Memᴰ g gs → length (members g) ≤ k

none : {k : ℕ} → AtMost k []
none = record { each = λ g m. absurd (Memᴰ.not-nil m) }

cons : {k : ℕ} {g : Group} {gs : List Group} → length (members g) ≤ k → AtMost k gs → AtMost k (g ∷ gs)
cons {k} {g} {gs} h f = record { each = λ x m. arm x (Memᴰ.cases_cons m) }
  where
    arm : (x : Group) → (x ≡ g) ⊎ Memᴰ x gs → length (members x) ≤ k
    arm x (inl e) = rw e h
    arm x (inr m) = f.each x m

here : {k : ℕ} {g : Group} {gs : List Group} → AtMost k (g ∷ gs) → length (members g) ≤ k
here {g = g} f = f.each g (Memᴰ.head refl)

later : {k : ℕ} {g : Group} {gs : List Group} → AtMost k (g ∷ gs) → AtMost k gs
later f = record { each = λ x m. f.each x (Memᴰ.tail m) }

more : {k : ℕ} {gs : List Group} → AtMost k gs → AtMost (suc k) gs
more f = record { each = λ x m. (let h = f.each x m in omega arith) }

join : {k : ℕ} (x : ℕ) {g : Group} {gs : List Group} → AtMost k (g ∷ gs) → AtMost (suc k) (joined g x ∷ gs)
join x {g} f = cons (rw length-append (let h = here f in omega arith)) (more (later f))

module _ (key : ℕ → List ℕ) where
  entered : (k x : ℕ) (gs : List Group) → AtMost k gs → AtMost (suc k) (enter key x gs)
  unfolding enter
  entered k x [] f = cons (omega arith) none
  entered k x (g ∷ gs) f = arm (order (key x) (key g.first)) (entered k x gs (later f))
    where
      arm : (o : Ordering) → AtMost (suc k) (enter key x gs) → AtMost (suc k) (by_order o (alone x ∷ g ∷ gs) (joined g x ∷ gs) (g ∷ enter key x gs))
      arm Less h = cons (omega arith) (more f)
      arm Equal h = join x f
      arm Greater h = cons (here (more f)) h

  extended : (k x : ℕ) (gs : List Group) → AtMost k gs → AtMost (suc k) (extend key x gs)
  unfolding extend
  extended k x [] f = none
  extended k x (g ∷ gs) f = arm (is_equal (order (key x) (key g.first))) (extended k x gs (later f))
    where
      arm : (b : Bool) → AtMost (suc k) (extend key x gs) → AtMost (suc k) (cond b (joined g x ∷ gs) (g ∷ extend key x gs))
      arm true h = join x f
      arm false h = cons (here (more f)) h

  pub entered_all : (k : ℕ) (gs : List Group) (xs : List ℕ) → AtMost k gs → AtMost (k + length xs) (enter_all key gs xs)
  unfolding enter_all
  entered_all k gs [] f = let e : k + 0 ≡ k = omega arith in rw e f
  entered_all k gs (x ∷ xs) f =
      let e : k + suc (length xs) ≡ suc k + length xs = omega arith in
      rw e (entered_all (suc k) (enter key x gs) xs (entered k x gs f))

  pub extended-all : (k : ℕ) (gs : List Group) (xs : List ℕ) → AtMost k gs → AtMost (k + length xs) (extend_all key gs xs)
  unfolding extend_all
  extended-all k gs [] f = let e : k + 0 ≡ k = omega arith in rw e f
  extended-all k gs (x ∷ xs) f =
      let e : k + suc (length xs) ≡ suc k + length xs = omega arith in
      rw e (extended-all (suc k) (extend key x gs) xs (extended k x gs f))

  -- from none on
  pub grouped : (xs ys : List ℕ) → AtMost (length xs + length ys) (extend_all key (enter_all key [] xs) ys)
  grouped xs ys =
      let e : 0 + length xs ≡ length xs = omega arith in
      extended-all (length xs) (enter_all key [] xs) ys (rw e at (entered_all 0 [] xs none))
