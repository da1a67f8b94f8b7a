-- Members of lists, and what is found by counting: elements by index, members of the lists that are made index by index, and indices that a test passes at.
use Prim.Native.Nat.{ℕ, zero, suc, ◌+◌, ◌≤◌, ◌<◌}
use native.Mathlib.Decide.{ℕ_discrete}
use native.Mathlib.Omega.{arith}
use mathlib.Core.Path.{◌≡◌, refl, sym, ap, ◌∙◌}
use mathlib.Core.Logic.{◌≢◌, ◌⊎◌, inl, inr}
use mathlib.Core.Bool.{Bool, true, false, cond, ◌&&◌, ◌||◌, false≢true}
use mathlib.Core.List.Memᴰ
use mathlib.Core.List.{List, [], ◌∷◌, ◌++◌, map, append-nil, Memᴰ}
use lib.ListN.{length, get_or}
use Rattle.base.specs.Lists.{each, all, only, tally, below}
use Rattle.base.proofs.Lists.{and_parts, each_none}

-- a test of two parts that both pass
pub and_both : (a b : Bool) → a ≡ true → b ≡ true → (a && b) ≡ true
and_both a b g h = rw (g, h)

-- ---- elements by index

module _ {A : Type 0} where
  -- inside a list the default does not matter
  pub get_or-default : (l : List A) (i : ℕ) (d e : A) → i < length l → get_or l i d ≡ get_or l i e
  get_or-default [] i d e h = absurd (omega arith)
  get_or-default (x ∷ xs) zero d e h = refl
  get_or-default (x ∷ xs) (suc i) d e h = get_or-default xs i d e (omega arith)

  pub get_or-mem : (l : List A) (i : ℕ) (d : A) → i < length l → Memᴰ (get_or l i d) l
  get_or-mem [] i d h = absurd (omega arith)
  get_or-mem (x ∷ xs) zero d h = Memᴰ.head refl
  get_or-mem (x ∷ xs) (suc i) d h = Memᴰ.tail (get_or-mem xs i d (omega arith))

  pub mem_index : (l : List A) (d x : A) → Memᴰ x l → (i : ℕ) × (i < length l) × (get_or l i d ≡ x)
  mem_index [] d x m = absurd (Memᴰ.not-nil m)
  mem_index (y ∷ l) d x m = arm (Memᴰ.cases_cons m) (mem_index l d x)
    where
      arm : (x ≡ y) ⊎ Memᴰ x l → (Memᴰ x l → (i : ℕ) × (i < length l) × (get_or l i d ≡ x)) → (i : ℕ) × (i < suc (length l)) × (get_or (y ∷ l) i d ≡ x)
      arm (inl e) ih = (0, omega arith, sym e)
      arm (inr k) ih = let p = ih k in (suc p.0, (let q = p.1 in omega arith), p.2)

  -- where all pass, a member does
  pub all-mem : (p : A → Bool) (l : List A) (x : A) → all p l ≡ true → Memᴰ x l → p x ≡ true
  unfolding all
  all-mem p [] x h m = absurd (Memᴰ.not-nil m)
  all-mem p (y ∷ ys) x h m = arm (Memᴰ.cases_cons m) (and_parts (p y) (all p ys) h) (all-mem p ys x)
    where
      arm : (x ≡ y) ⊎ Memᴰ x ys → (p y ≡ true) × (all p ys ≡ true) → (all p ys ≡ true → Memᴰ x ys → p x ≡ true) → p x ≡ true
      arm (inl e) t ih = ap p e ∙ t.0
      arm (inr k) t ih = ih t.1 k

pub get_or-map : {A B : Type 0} (g : A → B) (l : List A) (i : ℕ) (d : A) (e : B) → i < length l → get_or (map g l) i e ≡ g (get_or l i d)
get_or-map g [] i d e h = absurd (omega arith)
get_or-map g (x ∷ xs) zero d e h = refl
get_or-map g (x ∷ xs) (suc i) d e h = get_or-map g xs i d e (omega arith)

-- the same of every member
pub map_same : {A B : Type 0} (f g : A → B) (l : List A) → ((x : A) → Memᴰ x l → f x ≡ g x) → map f l ≡ map g l
map_same f g [] h = refl
map_same f g (x ∷ xs) h = rw (h x (Memᴰ.head refl), map_same f g xs (λ y k. h y (Memᴰ.tail k)))

-- ---- each and only

module _ {A : Type 0} where
  pub mem-each : (n : ℕ) (f : ℕ → List A) (i : ℕ) (x : A) → i < n → Memᴰ x (f i) → Memᴰ x (each n f)
  unfolding each
  mem-each zero f i x l h = absurd (omega arith)
  mem-each (suc n) f i x l h = arm (ℕ_discrete i n) (mem-each n f i x)
    where
      arm : Dec (i ≡ n) → (i < n → Memᴰ x (f i) → Memᴰ x (each n f)) → Memᴰ x (each n f ++ f n)
      arm (yes e) ih = Memᴰ.append_right (each n f) (rw e at h)
      arm (no m) ih = Memᴰ.append_left (f n) (ih (omega arith) h)

  pub each-mem : (n : ℕ) (f : ℕ → List A) (x : A) → Memᴰ x (each n f) → (i : ℕ) × (i < n) × Memᴰ x (f i)
  unfolding each
  each-mem zero f x h = absurd (Memᴰ.not-nil h)
  each-mem (suc n) f x h = arm (Memᴰ.append_cases (each n f) h) (each-mem n f x)
    where
      arm : Memᴰ x (each n f) ⊎ Memᴰ x (f n) → (Memᴰ x (each n f) → (i : ℕ) × (i < n) × Memᴰ x (f i)) → (i : ℕ) × (i < suc n) × Memᴰ x (f i)
      arm (inl k) ih = let p = ih k in (p.0, (let q = p.1 in omega arith), p.2)
      arm (inr k) ih = (n, omega arith, k)

  -- where all but one are empty
  pub each-only : (n : ℕ) (f : ℕ → List A) (k : ℕ) → k < n → ((i : ℕ) → i < n → i ≢ k → f i ≡ []) → each n f ≡ f k
  unfolding each
  each-only zero f k l h = absurd (omega arith)
  each-only (suc n) f k l h = arm (ℕ_discrete k n) (each-only n f k)
    where
      arm : Dec (k ≡ n) → (k < n → ((i : ℕ) → i < n → i ≢ k → f i ≡ []) → each n f ≡ f k) → each n f ++ f n ≡ f k
      arm (yes e) ih = rw (e, each_none n f (λ i q. h i (omega arith) (λ z. absurd (omega arith))))
      arm (no m) ih = rw (ih (omega arith) (λ i q w. h i (omega arith) w), h n (omega arith) (λ z. m (sym z))) (append-nil (f k))

  pub only-test : (b : Bool) (x y : A) → Memᴰ x (only b y) → b ≡ true
  only-test true x y h = refl
  only-test false x y h = absurd (Memᴰ.not-nil h)

  pub only-is : (b : Bool) (x y : A) → Memᴰ x (only b y) → x ≡ y
  only-is true x y h = Memᴰ.eq_of_singleton h
  only-is false x y h = absurd (Memᴰ.not-nil h)

  pub mem-only : (b : Bool) (x : A) → b ≡ true → Memᴰ x (only b x)
  mem-only b x h = rw h (Memᴰ.head refl)

-- ---- indices that a test passes at

pub tally-one : (n : ℕ) (f : ℕ → Bool) (i : ℕ) → i < n → f i ≡ true → 1 ≤ tally n f
unfolding tally
tally-one zero f i l h = absurd (omega arith)
tally-one (suc n) f i l h = arm (ℕ_discrete i n) (tally-one n f i)
  where
    arm : Dec (i ≡ n) → (i < n → f i ≡ true → 1 ≤ tally n f) → 1 ≤ tally n f + cond (f n) 1 0
    arm (yes e) ih = let t : f n ≡ true = rw e at h in rw t (omega arith)
    arm (no m) ih = let t = ih (omega arith) h in omega arith

-- a test that passes at two indices passes at two or more
pub tally-two : (n : ℕ) (f : ℕ → Bool) (i j : ℕ) → i < j → j < n → f i ≡ true → f j ≡ true → 2 ≤ tally n f
unfolding tally
tally-two zero f i j l k g h = absurd (omega arith)
tally-two (suc n) f i j l k g h = arm (ℕ_discrete j n) (tally-two n f i j l)
  where
    arm : Dec (j ≡ n) → (j < n → f i ≡ true → f j ≡ true → 2 ≤ tally n f) → 2 ≤ tally n f + cond (f n) 1 0
    arm (yes e) ih =
        let t : f n ≡ true = rw e at h in
        let o = tally-one n f i (omega arith) g in
        rw t (omega arith)
    arm (no m) ih = let t = ih (omega arith) g h in omega arith

-- where the test passes below n, it passes at an index
pub below-found : (n : ℕ) (f : ℕ → Bool) → below n f ≡ true → (i : ℕ) × (i < n) × (f i ≡ true)
unfolding below
below-found zero f h = absurd (false≢true h)
below-found (suc n) f h = arm (below n f) refl h (below-found n f)
  where
    arm : (b : Bool) → below n f ≡ b → (b || f n) ≡ true → (below n f ≡ true → (i : ℕ) × (i < n) × (f i ≡ true)) → (i : ℕ) × (i < suc n) × (f i ≡ true)
    arm true e h ih = let p = ih e in (p.0, (let q = p.1 in omega arith), p.2)
    arm false e h ih = (n, omega arith, h)
