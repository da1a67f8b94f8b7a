-- Laws of the lists and tests that are made index by index: one step more, two parts, the same below n, and what a test that passes says.
use mathlib.Core.Path.{◌≡◌, refl, sym, ◌∙◌}
use mathlib.Core.Logic.{◌≢◌}
use mathlib.Core.Bool.{Bool, true, false, ◌&&◌, ◌||◌, cond, false≢true, and_assoc, or_assoc}
use mathlib.Core.List.{List, [], ◌∷◌, ◌++◌, append_assoc, append-nil}
use Prim.Native.Nat.{ℕ, zero, suc, ◌+◌, ◌*◌, ◌≤◌, ◌<◌}
use native.Mathlib.Nat.{add-zero, add_assoc, mul-zero, mul-suc}
use native.Mathlib.Numerals.{add-one}
use native.Mathlib.Decide.{dec_lt, ℕ_discrete}
use native.Mathlib.Omega.{arith}
use lib.Dec.{eqb}
use lib.ListN.{length, get_or, set, length-append, length-set, get_or-append}
use lib.Seq.{ext_get_or, get_or_at, get_or-set_same, get_or-set_other}
use borrow.Author.Tests.{eq-eqb, eqb-true}
use Rattle.base.specs.Lists.{each, tab, steps, keep, any, all, tally, below, same}

-- ---- Bool

-- both parts of a test that passes
pub and_parts : (a b : Bool) → (a && b) ≡ true → (a ≡ true) × (b ≡ true)
and_parts true b h = (refl, h)
and_parts false b h = absurd (false≢true h)

-- both parts of a test that fails
pub or_parts : (a b : Bool) → (a || b) ≡ false → (a ≡ false) × (b ≡ false)
or_parts true b h = absurd (false≢true (sym h))
or_parts false b h = (refl, h)

-- ---- each, tab, steps

module _ {A : Type 0} where
  pub each_next : (i : ℕ) (f : ℕ → List A) → each (i + 1) f ≡ each i f ++ f i
  unfolding each
  each_next i f = rw add-one

  pub each-add : (n k : ℕ) (f : ℕ → List A) → each (n + k) f ≡ each n f ++ each k (λ i. f (n + i))
  unfolding each
  each-add n zero f = rw add-zero (sym (append-nil (each n f)))
  each-add n (suc k) f =
      let e : n + suc k ≡ suc (n + k) = omega arith in
      rw e (rw (each-add n k f) (append_assoc (each n f) (each k (λ i. f (n + i))) (f (n + k))))

  pub each_same : (n : ℕ) (f g : ℕ → List A) → ((i : ℕ) → i < n → f i ≡ g i) → each n f ≡ each n g
  unfolding each
  each_same zero f g h = refl
  each_same (suc n) f g h = rw (each_same n f g (λ i l. h i (omega arith)), h n (omega arith))

  pub each_none : (n : ℕ) (f : ℕ → List A) → ((i : ℕ) → i < n → f i ≡ []) → each n f ≡ []
  unfolding each
  each_none zero f h = refl
  each_none (suc n) f h = rw (each_none n f (λ i l. h i (omega arith)), h n (omega arith))

  -- at most c for each index
  pub length-each : (n c : ℕ) (f : ℕ → List A) → ((i : ℕ) → i < n → length (f i) ≤ c) → length (each n f) ≤ c * n
  unfolding each
  length-each zero c f h = omega (arith, mul-zero c)
  length-each (suc n) c f h =
      rw length-append (omega (arith, length-each n c f (λ i l. h i (omega arith)), h n (omega arith), mul-suc c n))

  pub length-tab : (n : ℕ) (f : ℕ → A) → length (tab n f) ≡ n
  unfolding each
  length-tab zero f = refl
  length-tab (suc n) f = length-append (tab n f) (f n ∷ []) ∙ rw (length-tab n f) (add-one n)

  pub get_or-tab : (n : ℕ) (f : ℕ → A) (i : ℕ) (d : A) → i < n → get_or (tab n f) i d ≡ f i
  unfolding each
  get_or-tab zero f i d h = absurd (omega arith)
  get_or-tab (suc n) f i d h = arm (get_or-tab n f i d) (dec_lt i n)
    where
      arm : (i < n → get_or (tab n f) i d ≡ f i) → Dec (i < n) → get_or (tab n f ++ (f n ∷ [])) i d ≡ f i
      arm before (yes l) = get_or-append (tab n f) (f n ∷ []) d i (rw (length-tab n f) l) ∙ before l
      arm before (no l) =
          let e : i ≡ n = omega arith in
          rw e (get_or_at (tab n f) (f n) [] d n (length-tab n f))

  -- every list is a table of its elements
  pub tab-get_or : (xs : List A) (d : A) → tab (length xs) (λ i. get_or xs i d) ≡ xs
  tab-get_or xs d =
      let l : length (tab (length xs) (λ i. get_or xs i d)) ≡ length xs = length-tab (length xs) (λ i. get_or xs i d) in
      ext_get_or d (tab (length xs) (λ i. get_or xs i d)) xs l (λ i h. get_or-tab (length xs) (λ j. get_or xs j d) i d (rw l at h))

  -- one element changed
  pub set-tab : (n : ℕ) (f g : ℕ → A) (p : ℕ) (v : A) → p < n → g p ≡ v → ((i : ℕ) → i ≢ p → g i ≡ f i) → tab n g ≡ set (tab n f) p v
  set-tab n f g p v h e o =
      ext_get_or v (tab n g) (set (tab n f) p v) (length-tab n g ∙ sym (length-set (tab n f) p v ∙ length-tab n f)) (λ i l. go i (rw (length-tab n g) at l))
    where
      go : (i : ℕ) → i < n → get_or (tab n g) i v ≡ get_or (set (tab n f) p v) i v
      go i l = arm (ℕ_discrete i p)
        where
          arm : Dec (i ≡ p) → get_or (tab n g) i v ≡ get_or (set (tab n f) p v) i v
          arm (yes q) = get_or-tab n g i v l ∙ rw q (e ∙ sym (get_or-set_same (tab n f) p v v (rw (length-tab n f) h)))
          arm (no q) = get_or-tab n g i v l ∙ o i q ∙ sym (get_or-set_other (tab n f) p i v v q ∙ get_or-tab n f i v l)

  pub steps_next : (i : ℕ) (f : ℕ → A → A) (a : A) → steps (i + 1) f a ≡ f i (steps i f a)
  unfolding steps
  steps_next i f a = rw add-one

-- ---- tests over a list

module _ {A : Type 0} (p : A → Bool) where
  pub all_append : (xs ys : List A) → all p (xs ++ ys) ≡ (all p xs && all p ys)
  unfolding all
  all_append [] ys = refl
  all_append (x ∷ xs) ys = rw (all_append xs ys) (sym (and_assoc (p x) (all p xs) (all p ys)))

  pub any_append : (xs ys : List A) → any p (xs ++ ys) ≡ (any p xs || any p ys)
  unfolding any
  any_append [] ys = refl
  any_append (x ∷ xs) ys = rw (any_append xs ys) (sym (or_assoc (p x) (any p xs) (any p ys)))

  pub keep_append : (xs ys : List A) → keep p (xs ++ ys) ≡ keep p xs ++ keep p ys
  unfolding keep
  keep_append [] ys = refl
  keep_append (x ∷ xs) ys = rw (keep_append xs ys) (arm (p x))
    where
      arm : (b : Bool) → cond b (x ∷ (keep p xs ++ keep p ys)) (keep p xs ++ keep p ys) ≡ cond b (x ∷ keep p xs) (keep p xs) ++ keep p ys
      arm true = refl
      arm false = refl

  -- where all pass, each does
  pub all-get_or : (xs : List A) (i : ℕ) (d : A) → all p xs ≡ true → i < length xs → p (get_or xs i d) ≡ true
  unfolding all
  all-get_or [] i d h l = absurd (omega arith)
  all-get_or (x ∷ xs) zero d h l = (and_parts (p x) (all p xs) h).0
  all-get_or (x ∷ xs) (suc i) d h l = all-get_or xs i d (and_parts (p x) (all p xs) h).1 (omega arith)

  -- where none passes, each fails
  pub any-get_or : (xs : List A) (i : ℕ) (d : A) → any p xs ≡ false → i < length xs → p (get_or xs i d) ≡ false
  unfolding any
  any-get_or [] i d h l = absurd (omega arith)
  any-get_or (x ∷ xs) zero d h l = (or_parts (p x) (any p xs) h).0
  any-get_or (x ∷ xs) (suc i) d h l = any-get_or xs i d (or_parts (p x) (any p xs) h).1 (omega arith)

  -- where each fails, none passes
  pub get_or-any : (xs : List A) (d : A) → ((i : ℕ) → i < length xs → p (get_or xs i d) ≡ false) → any p xs ≡ false
  unfolding any
  get_or-any [] d h = refl
  get_or-any (x ∷ xs) d h = rw (h 0 (omega arith)) (get_or-any xs d (λ i l. h (suc i) (omega arith)))

-- ---- tests over the indices below n

pub tally-next : (k : ℕ) (f : ℕ → Bool) → tally (k + 1) f ≡ tally k f + cond (f k) 1 0
unfolding tally
tally-next k f = rw add-one

pub tally-yes : (k : ℕ) (f : ℕ → Bool) → f k ≡ true → tally (k + 1) f ≡ tally k f + 1
unfolding tally
tally-yes k f h = rw (add-one k, h)

pub tally-no : (k : ℕ) (f : ℕ → Bool) → f k ≡ false → tally (k + 1) f ≡ tally k f
unfolding tally
tally-no k f h = rw (add-one k, h) (add-zero (tally k f))

pub tally-add : (n k : ℕ) (f : ℕ → Bool) → tally (n + k) f ≡ tally n f + tally k (λ i. f (n + i))
unfolding tally
tally-add n zero f = rw (add-zero n) (sym (add-zero (tally n f)))
tally-add n (suc k) f =
    let e : n + suc k ≡ suc (n + k) = omega arith in
    rw e (rw (tally-add n k f) (add_assoc (tally n f) (tally k (λ i. f (n + i))) (cond (f (n + k)) 1 0)))

pub tally-same : (n : ℕ) (f g : ℕ → Bool) → ((i : ℕ) → i < n → f i ≡ g i) → tally n f ≡ tally n g
unfolding tally
tally-same zero f g h = refl
tally-same (suc n) f g h = rw (tally-same n f g (λ i l. h i (omega arith)), h n (omega arith))

pub tally-le : (n : ℕ) (f : ℕ → Bool) → tally n f ≤ n
unfolding tally
tally-le zero f = omega arith
tally-le (suc n) f = arm (f n) (tally-le n f)
  where
    arm : (b : Bool) → tally n f ≤ n → tally n f + cond b 1 0 ≤ suc n
    arm true h = omega arith
    arm false h = omega arith

pub below_next : (i : ℕ) (f : ℕ → Bool) → below (i + 1) f ≡ (below i f || f i)
unfolding below
below_next i f = rw add-one

-- where the test passes at no index below n, it fails at each
pub below_each : (n : ℕ) (f : ℕ → Bool) (i : ℕ) → below n f ≡ false → i < n → f i ≡ false
unfolding below
below_each zero f i h l = absurd (omega arith)
below_each (suc n) f i h l = arm (ℕ_discrete i n) (below_each n f i (or_parts (below n f) (f n) h).0)
  where
    arm : Dec (i ≡ n) → (i < n → f i ≡ false) → f i ≡ false
    arm (yes e) ih = rw e (or_parts (below n f) (f n) h).1
    arm (no e) ih = ih (omega arith)

-- where the test passes at an index below n, it passes below n
pub below-some : (n : ℕ) (f : ℕ → Bool) (i : ℕ) → i < n → f i ≡ true → below n f ≡ true
below-some n f i l h = arm (below n f) refl
  where
    arm : (b : Bool) → below n f ≡ b → b ≡ true
    arm true e = refl
    arm false e = absurd (false≢true (sym (below_each n f i e l) ∙ h))

-- ---- equal byte strings

pub same_refl : (xs : List ℕ) → same xs xs ≡ true
unfolding same
same_refl [] = refl
same_refl (x ∷ xs) = rw (eq-eqb x x refl) (same_refl xs)

pub same-sound : (xs ys : List ℕ) → same xs ys ≡ true → xs ≡ ys
unfolding same
same-sound [] [] h = refl
same-sound [] (y ∷ ys) h = absurd (false≢true h)
same-sound (x ∷ xs) [] h = absurd (false≢true h)
same-sound (x ∷ xs) (y ∷ ys) h =
    let e : x ≡ y = eqb-true x y (and_parts (eqb x y) (same xs ys) h).0 in
    let f : xs ≡ ys = same-sound xs ys (and_parts (eqb x y) (same xs ys) h).1 in
    rw (e, f)
