-- A search of the numbers from 0 on finds one exactly if the test passes somewhere below the end.
use Rattle.std.proofs.Common.{◌≡◌, ℕ, zero, suc, ◌+◌, Bool, true, false, ◌||◌, ap, ◌∙◌, refl, arith}
use Rattle.std.specs.List.{list_any, range_with_len}
use Rattle.base.specs.Lists.{below}
use Rattle.base.proofs.Lists.{below_next}

or-assoc : (a b c : Bool) → (a || (b || c)) ≡ ((a || b) || c)
or-assoc true b c = refl
or-assoc false b c = refl

or-none : (a : Bool) → (a || false) ≡ a
or-none true = refl
or-none false = refl

module _ (f : ℕ → Bool) where
  searched : (n a : ℕ) → (below a f || list_any f (range_with_len a n)) ≡ below (a + n) f
  searched zero a = or-none (below a f) ∙ (let e : a ≡ a + 0 = omega arith in ap (λ k. below k f) e)
  searched (suc n) a =
      let e : a + 1 + n ≡ a + suc n = omega arith in
      let s : (below (a + 1) f || list_any f (range_with_len (a + 1) n)) ≡ below (a + suc n) f = searched n (a + 1) ∙ ap (λ k. below k f) e in
      or-assoc (below a f) (f a) (list_any f (range_with_len (a + 1) n)) ∙ (rw (below_next a f) at s)

  pub any-below : (n : ℕ) → list_any f (range_with_len 0 n) ≡ below n f
  unfolding below
  any-below n = searched n 0 ∙ (let e : 0 + n ≡ n = omega arith in ap (λ k. below k f) e)
