-- The runs of the sorted records are the groups.
use mathlib.Core.Path.{◌≡◌, refl, sym, ap, ◌∙◌}
use mathlib.Core.Bool.{Bool, true, false, cond}
use mathlib.Core.List.{List, [], ◌∷◌}
use Prim.Native.Nat.{ℕ}
use native.Mathlib.Omega.{arith}
use Rattle.oce_model.specs.Texts.{order, is_less, is_equal}
use Rattle.std.specs.declared.cmp.Ordering.{Ordering}
use Rattle.std.specs.declared.cmp.Ordering.TheVariants.{Less, Equal, Greater}
use Rattle.oce_model.proofs.Order.{order_flip, flip, order-equal}
use Rattle.sorting.specs.Sort.{insert, insert_all, sorted, Rising, InOrder}
use Rattle.sorting.proofs.Sorted.{insert-in-order}
use Rattle.crossed_sort.specs.Sort.{goes_first}
use Rattle.crossed_sort.proofs.Sorted.{key-orders}
use Rattle.crossed_bounds.specs.Groups.{Group, alone, joined, by_order, enter, enter_all}
use Rattle.crossed_domains.specs.Runs.{runs_from, runs}

no : {A : Type 0} → false ≡ true → A
no e = absurd (let z : ◌≡◌ {A = ℕ} 0 1 = cc in omega arith)

module _ (key : ℕ → List ℕ) where
  -- x comes before all runs
  enter-front : (xs : List ℕ) (g : Group) (x : ℕ) → order (key x) (key g.first) ≡ Less → enter key x (runs_from key g xs) ≡ alone x ∷ runs_from key g xs
  unfolding enter runs_from
  enter-front [] g x e = rw e
  enter-front (y ∷ ys) g x e = go (is_equal (order (key g.first) (key y))) (enter-front ys (joined g y) x e)
    where
      go : (t : Bool) → enter key x (runs_from key (joined g y) ys) ≡ alone x ∷ runs_from key (joined g y) ys
          → enter key x (cond t (runs_from key (joined g y) ys) (g ∷ runs_from key (alone y) ys)) ≡ alone x ∷ cond t (runs_from key (joined g y) ys) (g ∷ runs_from key (alone y) ys)
      go true f = f
      go false f = rw e

  -- an order goes by the key alone
  rising-key : {x y : ℕ} (ys : List ℕ) → key x ≡ key y → Rising (goes_first key) y ys → Rising (goes_first key) x ys
  rising-key [] e r = tt
  rising-key (z ∷ zs) e r = (rw e r.0, r.1)

  -- x isn't before the open run
  enter_behind : (xs : List ℕ) (g : Group) (x : ℕ) → is_less (order (key x) (key g.first)) ≡ false → Rising (goes_first key) g.first xs
      → runs_from key g (insert (goes_first key) x xs) ≡ enter key x (runs_from key g xs)
  unfolding insert enter runs_from
  enter_behind [] g x h r = go (order (key x) (key g.first)) (order_flip (key x) (key g.first)) h
    where
      go : (o : Ordering) → order (key g.first) (key x) ≡ flip o → is_less o ≡ false
          → cond (is_equal (order (key g.first) (key x))) (joined g x ∷ []) (g ∷ alone x ∷ []) ≡ by_order o (alone x ∷ g ∷ []) (joined g x ∷ []) (g ∷ alone x ∷ [])
      go Less e h = no (sym h)
      go Equal e h = rw e
      go Greater e h = rw e
  enter_behind (y ∷ ys) g x h r =
      go (order (key g.first) (key y)) (order (key x) (key g.first)) (order (key x) (key y)) refl refl refl (enter_behind ys (joined g y) x) (enter_behind ys (alone y) x)
    where
      go : (p q o : Ordering) → order (key g.first) (key y) ≡ p → order (key x) (key g.first) ≡ q → order (key x) (key y) ≡ o
          → (is_less (order (key x) (key g.first)) ≡ false → Rising (goes_first key) g.first ys → runs_from key (joined g y) (insert (goes_first key) x ys) ≡ enter key x (runs_from key (joined g y) ys))
          → (is_less (order (key x) (key y)) ≡ false → Rising (goes_first key) y ys → runs_from key (alone y) (insert (goes_first key) x ys) ≡ enter key x (runs_from key (alone y) ys))
          → runs_from key g (cond (is_less o) (x ∷ y ∷ ys) (y ∷ insert (goes_first key) x ys)) ≡ enter key x (cond (is_equal p) (runs_from key (joined g y) ys) (g ∷ runs_from key (alone y) ys))
      go Greater q o P Q O f k = no (sym r.0 ∙ rw (order_flip (key g.first) (key y), P))
      go Equal q o P Q O f k = same (order-equal (key g.first) (key y) P)
        where
          same : key g.first ≡ key y → runs_from key g (cond (is_less o) (x ∷ y ∷ ys) (y ∷ insert (goes_first key) x ys)) ≡ enter key x (runs_from key (joined g y) ys)
          same e =
              let n : is_less o ≡ false = rw (← O, ← e) h in
              rw (n, P) (f h (rising-key ys e r.1))
      go Less Less o P Q O f k = no (sym h ∙ rw Q)
      go Less Equal o P Q O f k =
          let e : key x ≡ key g.first = order-equal (key x) (key g.first) Q in
          let n : o ≡ Less = sym O ∙ rw e P in
          let m : order (key g.first) (key x) ≡ Equal = order_flip (key x) (key g.first) ∙ ap flip Q in
          rw (n, m, P, Q)
      go Less Greater Less P Q O f k =
          let m : order (key g.first) (key x) ≡ Less = order_flip (key x) (key g.first) ∙ ap flip Q in
          rw (m, O, Q) (ap (◌∷◌ g) (sym (enter-front ys (alone y) x O)))
      go Less Greater Equal P Q O f k = rw (P, Q) (ap (◌∷◌ g) (k (rw O) r.1))
      go Less Greater Greater P Q O f k = rw (P, Q) (ap (◌∷◌ g) (k (rw O) r.1))

  runs-insert : (x : ℕ) (xs : List ℕ) → InOrder (goes_first key) xs → runs key (insert (goes_first key) x xs) ≡ enter key x (runs key xs)
  unfolding runs insert enter runs_from
  runs-insert x [] r = refl
  runs-insert x (y ∷ ys) r = go (order (key x) (key y)) refl
    where
      go : (o : Ordering) → order (key x) (key y) ≡ o → runs key (cond (is_less o) (x ∷ y ∷ ys) (y ∷ insert (goes_first key) x ys)) ≡ enter key x (runs_from key (alone y) ys)
      go Less e = rw e (sym (enter-front ys (alone y) x e))
      go Equal e = enter_behind ys (alone y) x (rw e) r
      go Greater e = enter_behind ys (alone y) x (rw e) r

  runs-insert_all : (l xs : List ℕ) → InOrder (goes_first key) l → runs key (insert_all (goes_first key) l xs) ≡ enter_all key (runs key l) xs
  unfolding insert_all enter_all
  runs-insert_all l [] r = refl
  runs-insert_all l (x ∷ xs) r = rw (← runs-insert x l r) (runs-insert_all (insert (goes_first key) x l) xs (insert-in-order (goes_first key) (key-orders key) x l r))

  -- the runs of the sorted records are the groups that the records enter one by one
  pub runs-sorted : (xs : List ℕ) → runs key (sorted (goes_first key) xs) ≡ enter_all key [] xs
  unfolding runs
  runs-sorted xs = runs-insert_all [] xs tt
