-- What rule 5.4's combined range says: of ranges whose ends are numbers of their kind it is crossed exactly if all are uncrossed, of one kind, and no value lies in every range.
use Rattle.std.specs.Prelude.{None, Some}
use Prim.Native.Nat.{ℕ}
use mathlib.Core.Path.{◌≡◌, refl, sym, ◌∙◌}
use mathlib.Core.Bool.{Bool, true, false, ◌&&◌, ◌||◌, false≢true, true≢false}
use mathlib.Core.Logic.{◌⊎◌, inl, inr}
use mathlib.Core.List.{List, ◌∷◌}
use lib.IntN.{pos}
use lib.Signed.{le_z}
use lib.Ieee.{fin, le, fits}
use borrow.Author.Tests.{eqb-true}
use Rattle.base.specs.Lists.{all}
use Rattle.base.proofs.Lists.{and_parts, or_parts}
use Rattle.numbers.proofs.Orders.{Ordered, clash}
use Rattle.numbers.proofs.Reals.{reals, real-le-refl, real-not-lt-le}
use Rattle.numbers.proofs.Integers.{integers, int-le-refl, int-not-lt-le}
use Rattle.oce_model.specs.Format.{real_kind, integer_kind}
use Rattle.crossed_bounds.specs.Ranges.{crossed_ends, crossed_bounds, crossed, combined}
use Rattle.crossed_bounds.specs.Values.{Datum, real, integer, boolean, string, enum, of_kind, not_below, not_above, inside_bounds}
use Rattle.crossed_bounds.specs.Counts.{bounds_kind, plain, one_kind, Common, NoCommon}
use Rattle.crossed_bounds.specs.declared.Bounds.{Bounds}
use Rattle.crossed_bounds.specs.declared.Bounds.TheVariants.{Real, Integer}
use Rattle.crossed_bounds.specs.Ends.{Range}
use Rattle.crossed_bounds.proofs.Combined.{both, good_end, good_bounds, good, real-finite, Leaves, combined-leaves}

-- ---- one range

-- nothing lies between ends that are crossed
between : {X : Type 0} {ok : X → Bool} {lt le : X → X → Bool} (o : Ordered ok lt le) (a b x : X) → ok a ≡ true → ok b ≡ true → ok x ≡ true → lt b a ≡ true
    → (le a x && le x b) ≡ false
between {X} {ok} {lt} {le} o a b x A B C h = arm (le a x && le x b) refl
  where
    arm : (t : Bool) → (le a x && le x b) ≡ t → t ≡ false
    arm true e = let p = and_parts (le a x) (le x b) e in absurd (clash o b a h (o.le_trans a x b p.0 p.1 A C B) B A)
    arm false e = refl

crossed-empty : (b : Bounds) → good_bounds b ≡ true → crossed_bounds b ≡ true → (k : ℕ) (v : Datum) → of_kind k v ≡ true → inside_bounds b v ≡ false
unfolding good_bounds good_end crossed_bounds crossed_ends inside_bounds not_below not_above
crossed-empty (Real None hi) g h k v e = absurd (false≢true h)
crossed-empty (Real (Some a) None) g h k v e = absurd (false≢true h)
crossed-empty (Real (Some a) (Some b)) g h k (real x) e =
    let G = and_parts (of_kind real_kind (real a)) (of_kind real_kind (real b)) g in
    between reals a b x (real-finite real_kind a G.0) (real-finite real_kind b G.1) (real-finite k x e) h
crossed-empty (Real (Some a) (Some b)) g h k (integer z) e = refl
crossed-empty (Real (Some a) (Some b)) g h k (boolean x) e = refl
crossed-empty (Real (Some a) (Some b)) g h k (string x) e = refl
crossed-empty (Real (Some a) (Some b)) g h k (enum x y) e = refl
crossed-empty (Integer a b) g h k (real x) e = refl
crossed-empty (Integer a b) g h k (integer z) e = between integers a b z refl refl refl h
crossed-empty (Integer a b) g h k (boolean x) e = refl
crossed-empty (Integer a b) g h k (string x) e = refl
crossed-empty (Integer a b) g h k (enum x y) e = refl

-- an uncrossed range holds its lower end; without one its upper end; without both it holds 0
uncrossed-holds : (b : Bounds) → good_bounds b ≡ true → crossed_bounds b ≡ false → (v : Datum) × ((of_kind (bounds_kind b) v ≡ true) × (inside_bounds b v ≡ true))
unfolding good_bounds good_end crossed_bounds crossed_ends inside_bounds not_below not_above of_kind fits
uncrossed-holds (Real None None) g h = (real (fin false 0 (pos 0)), (refl, refl))
uncrossed-holds (Real None (Some b)) g h = (real b, (g, real-le-refl b (real-finite real_kind b g)))
uncrossed-holds (Real (Some a) None) g h =
    let G = (and_parts (of_kind real_kind (real a)) true g).0 in
    (real a, (G, both (le a a) true (real-le-refl a (real-finite real_kind a G)) refl))
uncrossed-holds (Real (Some a) (Some b)) g h =
    let G = and_parts (of_kind real_kind (real a)) (of_kind real_kind (real b)) g in
    let A = real-finite real_kind a G.0 in
    let B = real-finite real_kind b G.1 in
    (real a, (G.0, both (le a a) (le a b) (real-le-refl a A) (real-not-lt-le a b h A B)))
uncrossed-holds (Integer a b) g h =
    let G = and_parts (of_kind integer_kind (integer a)) (of_kind integer_kind (integer b)) g in
    (integer a, (G.0, both (le_z a a) (le_z a b) (int-le-refl a) (int-not-lt-le a b h)))

-- ---- the combined range of a member and more

module _ (r : Range) (rs : List Range) (g : all good (r ∷ rs) ≡ true) where
  -- crossed: no value lies in every range
  pub none-common : crossed (combined (r ∷ rs)) ≡ true → NoCommon (r ∷ rs)
  unfolding crossed
  none-common = arm (combined (r ∷ rs)) (combined-leaves r rs g)
    where
      arm : (p : Range) → Leaves (r ∷ rs) p → crossed p ≡ true → NoCommon (r ∷ rs)
      arm None H h k v e = absurd (false≢true h)
      arm (Some b) H h k v e = sym (H.holds k v e) ∙ crossed-empty b H.good h k v e

  -- not crossed, and all uncrossed and of one kind: some value of that kind does
  pub some-common : (k : ℕ) → all (plain k) (r ∷ rs) ≡ true → crossed (combined (r ∷ rs)) ≡ false → Common k (r ∷ rs)
  unfolding crossed
  some-common k = arm (combined (r ∷ rs)) (combined-leaves r rs g)
    where
      arm : (p : Range) → Leaves (r ∷ rs) p → all (plain k) (r ∷ rs) ≡ true → crossed p ≡ false → Common k (r ∷ rs)
      arm None H a h = absurd (false≢true (sym (H k) ∙ a))
      arm (Some b) H a h =
          let w = uncrossed-holds b H.good h in
          let e : bounds_kind b ≡ k = eqb-true (bounds_kind b) k (sym (H.kind k) ∙ a) in
          record { value = w.0; of-kind = rw e at w.1.0; inside-all = sym (H.holds (bounds_kind b) w.0 w.1.0) ∙ w.1.1 }

  -- not all uncrossed and of one kind: not crossed
  pub not-one-kind : one_kind (r ∷ rs) ≡ false → crossed (combined (r ∷ rs)) ≡ false
  unfolding crossed one_kind
  not-one-kind h = arm (combined (r ∷ rs)) (combined-leaves r rs g) (or_parts (all (plain real_kind) (r ∷ rs)) (all (plain integer_kind) (r ∷ rs)) h)
    where
      arm : (p : Range) → Leaves (r ∷ rs) p → (all (plain real_kind) (r ∷ rs) ≡ false) × (all (plain integer_kind) (r ∷ rs) ≡ false) → crossed p ≡ false
      arm None H n = refl
      arm (Some (Real lo hi)) H n = absurd (true≢false (sym (H.kind real_kind) ∙ n.0))
      arm (Some (Integer lo hi)) H n = absurd (true≢false (sym (H.kind integer_kind) ∙ n.1))

  -- all uncrossed and of one kind: some value lies in every range, or none does, and the combined range tells which
  pub one-kind-common : one_kind (r ∷ rs) ≡ true → crossed (combined (r ∷ rs)) ≡ false → (k : ℕ) × Common k (r ∷ rs)
  unfolding one_kind
  one-kind-common o h = arm (all (plain real_kind) (r ∷ rs)) refl o
    where
      arm : (t : Bool) → all (plain real_kind) (r ∷ rs) ≡ t → (t || all (plain integer_kind) (r ∷ rs)) ≡ true → (k : ℕ) × Common k (r ∷ rs)
      arm true e i = (real_kind, some-common real_kind e h)
      arm false e i = (integer_kind, some-common integer_kind i h)

  pub none_or_some : one_kind (r ∷ rs) ≡ true → NoCommon (r ∷ rs) ⊎ ((k : ℕ) × Common k (r ∷ rs))
  none_or_some o = arm (crossed (combined (r ∷ rs))) refl
    where
      arm : (c : Bool) → crossed (combined (r ∷ rs)) ≡ c → NoCommon (r ∷ rs) ⊎ ((k : ℕ) × Common k (r ∷ rs))
      arm true h = inl (none-common h)
      arm false h = inr (one-kind-common o h)

  pub crossed-if-none : one_kind (r ∷ rs) ≡ true → NoCommon (r ∷ rs) → crossed (combined (r ∷ rs)) ≡ true
  crossed-if-none o n = arm (crossed (combined (r ∷ rs))) refl
    where
      arm : (c : Bool) → crossed (combined (r ∷ rs)) ≡ c → c ≡ true
      arm true h = refl
      arm false h = let w = one-kind-common o h in absurd (false≢true (sym (n w.0 w.1.value w.1.of-kind) ∙ w.1.inside-all))

  pub uncrossed-if-some : (k : ℕ) → Common k (r ∷ rs) → crossed (combined (r ∷ rs)) ≡ false
  uncrossed-if-some k w = arm (crossed (combined (r ∷ rs))) refl
    where
      arm : (c : Bool) → crossed (combined (r ∷ rs)) ≡ c → c ≡ false
      arm true h = absurd (false≢true (sym (none-common h k w.value w.of-kind) ∙ w.inside-all))
      arm false h = refl
