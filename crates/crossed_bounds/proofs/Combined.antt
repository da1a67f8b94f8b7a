-- The combined range of several members holds exactly the values that lie in every member's range; it is there exactly if all have an uncrossed range and one kind.
use Rattle.std.specs.Prelude.{None, Some}
use Prim.Native.Nat.{ℕ}
use mathlib.Core.Path.{◌≡◌, refl, sym, ap₂, ◌∙◌}
use mathlib.Core.Bool.{Bool, true, false, cond, ◌&&◌, and-true, and-false, and_self}
use mathlib.Core.List.{List, [], ◌∷◌, ◌++◌, append_assoc, append-nil}
use native.Mathlib.Omega.{arith}
use lib.Dec.{eqb}
use lib.Signed.{lt_z, le_z}
use lib.Ieee.{Float, binary64, lt, le, fits}
use lib.Ieee.Scale.{finite}
use borrow.Author.Tests.{eqb-true, ne_eqb}
use Rattle.base.specs.Lists.{all}
use Rattle.base.proofs.Lists.{and_parts, all_append}
use Rattle.numbers.proofs.Orders.{Ordered}
use Rattle.numbers.proofs.Reals.{reals}
use Rattle.numbers.proofs.Integers.{integers}
use Rattle.oce_model.specs.Format.{real_kind, integer_kind}
use Rattle.crossed_bounds.specs.Ranges.{crossed_bounds, higher, lower, higher_integer, lower_integer, intersect, uncrossed, take_in, take_in_all, combined}
use Rattle.crossed_bounds.specs.Values.{Datum, real, integer, boolean, string, enum, of_kind, not_below, not_above, inside_bounds, inside}
use Rattle.crossed_bounds.specs.Counts.{bounds_kind, plain, inside_all}
use Rattle.crossed_bounds.specs.Ends.{End, Range}
use Rattle.crossed_bounds.specs.declared.Bounds.{Bounds}
use Rattle.crossed_bounds.specs.declared.Bounds.TheVariants.{Real, Integer}

-- ---- one member more, from what is kept and that member

pub take_in_all-more : (kept : Range) (rs : List Range) (r : Range) → take_in_all kept (rs ++ (r ∷ [])) ≡ take_in (take_in_all kept rs) r
unfolding take_in_all
take_in_all-more kept [] r = refl
take_in_all-more kept (q ∷ rs) r = take_in_all-more (take_in kept q) rs r

pub combined-more : (q : Range) (rs : List Range) (r : Range) → combined ((q ∷ rs) ++ (r ∷ [])) ≡ take_in (combined (q ∷ rs)) r
unfolding combined
combined-more q rs r = take_in_all-more (uncrossed q) rs r

-- ---- ends that are numbers of their kind

unfoldable pub good_end : End → Bool
good_end None = true
good_end (Some a) = of_kind real_kind (real a)

unfoldable pub good_bounds : Bounds → Bool
good_bounds (Real lo hi) = good_end lo && good_end hi
good_bounds (Integer lo hi) = of_kind integer_kind (integer lo) && of_kind integer_kind (integer hi)

unfoldable pub good : Range → Bool
good None = true
good (Some b) = good_bounds b

-- ---- Bool

pub both : (a b : Bool) → a ≡ true → b ≡ true → (a && b) ≡ true
both a b h k = rw (h, k)

-- a test that passes only where the other does
absorb-left : (p q : Bool) → (q ≡ true → p ≡ true) → q ≡ (p && q)
absorb-left p true f = rw (f refl)
absorb-left p false f = sym (and-false p)

absorb-right : (p q : Bool) → (p ≡ true → q ≡ true) → p ≡ (p && q)
absorb-right true q f = sym (f refl)
absorb-right false q f = refl

and-swap : (p q r s : Bool) → ((p && q) && (r && s)) ≡ ((p && r) && (q && s))
and-swap true true r s = refl
and-swap true false true s = refl
and-swap true false false s = refl
and-swap false q r s = refl

-- no number is two
differ : (a b k : ℕ) → (a ≡ b → ⊥) → (eqb a k && eqb b k) ≡ false
differ a b k n = arm (eqb a k) refl
  where
    arm : (t : Bool) → eqb a k ≡ t → (t && eqb b k) ≡ false
    arm true h = ne_eqb b k (λ e. n (eqb-true a k h ∙ sym e))
    arm false h = refl

-- the picked one is one of the two
pick : {X : Type 0} (f : X → Bool) (t : Bool) (a b : X) → f a ≡ true → f b ≡ true → f (cond t b a) ≡ true
pick f true a b h k = k
pick f false a b h k = h

-- ---- the tighter of two ends

flip : {X : Type 0} {ok : X → Bool} {lt le : X → X → Bool} → Ordered ok lt le → Ordered ok (λ x y. lt y x) (λ x y. le y x)
flip o = record {
  le_refl = o.le_refl;
  lt-le = λ x y. o.lt-le y x;
  not-lt-le = λ x y h p q. o.not-lt-le y x h q p;
  le_not_lt = λ x y h p q. o.le_not_lt y x h q p;
  le_trans = λ x y z h k p q r. o.le_trans z y x k h r q p;
}

-- at least the higher of two is at least both; by the flipped order, at most the lower of two is at most both
tighter : {X : Type 0} {ok : X → Bool} {lt le : X → X → Bool} (o : Ordered ok lt le) (a b x : X) → ok a ≡ true → ok b ≡ true → ok x ≡ true
    → le (cond (lt a b) b a) x ≡ (le a x && le b x)
tighter {X} {ok} {lt} {le} o a b x A B C = arm (lt a b) refl
  where
    arm : (t : Bool) → lt a b ≡ t → le (cond t b a) x ≡ (le a x && le b x)
    arm true h = absorb-left (le a x) (le b x) (λ k. o.le_trans a b x (o.lt-le a b h) k A B C)
    arm false h = absorb-right (le a x) (le b x) (λ k. o.le_trans b a x (o.not-lt-le b a h B A) k B A C)

pub real-finite : (k : ℕ) (x : Float) → of_kind k (real x) ≡ true → finite x ≡ true
unfolding of_kind
real-finite k x h = (and_parts (eqb k real_kind) (finite x) (and_parts (eqb k real_kind && finite x) (fits binary64 x) h).0).1

higher-inside : (a b : End) (x : Float) → good_end a ≡ true → good_end b ≡ true → finite x ≡ true → not_below (higher a b) x ≡ (not_below a x && not_below b x)
unfolding good_end higher not_below
higher-inside None b x A B C = refl
higher-inside (Some a) None x A B C = sym (and-true (le a x))
higher-inside (Some a) (Some b) x A B C = tighter reals a b x (real-finite real_kind a A) (real-finite real_kind b B) C

lower-inside : (a b : End) (x : Float) → good_end a ≡ true → good_end b ≡ true → finite x ≡ true → not_above (lower a b) x ≡ (not_above a x && not_above b x)
unfolding good_end lower not_above
lower-inside None b x A B C = refl
lower-inside (Some a) None x A B C = sym (and-true (le x a))
lower-inside (Some a) (Some b) x A B C = tighter (flip reals) a b x (real-finite real_kind a A) (real-finite real_kind b B) C

higher-good : (a b : End) → good_end a ≡ true → good_end b ≡ true → good_end (higher a b) ≡ true
unfolding good_end higher
higher-good None b A B = B
higher-good (Some a) None A B = A
higher-good (Some a) (Some b) A B = pick (λ x. of_kind real_kind (real x)) (lt a b) a b A B

lower-good : (a b : End) → good_end a ≡ true → good_end b ≡ true → good_end (lower a b) ≡ true
unfolding good_end lower
lower-good None b A B = B
lower-good (Some a) None A B = A
lower-good (Some a) (Some b) A B = pick (λ x. of_kind real_kind (real x)) (lt b a) a b A B

-- ---- what a list of members leaves: nothing, if not all have an uncrossed range and one kind; else the range of that kind which holds what all hold

pub record Holds (rs : List Range) (b : Bounds) : Type 0 where
  pub good : good_bounds b ≡ true
  pub kind : (k : ℕ) → all (plain k) rs ≡ eqb (bounds_kind b) k
  pub holds : (k : ℕ) (v : Datum) → of_kind k v ≡ true → inside_bounds b v ≡ inside_all v rs

abbrev pub Leaves : List Range → Range → Type 0
Leaves rs None = (k : ℕ) → all (plain k) rs ≡ false
Leaves rs (Some b) = Holds rs b

-- the ranges before, and an uncrossed one more
module _ (rs : List Range) (b c : Bounds) (H : Holds rs b) (u : crossed_bounds c ≡ false) where
  kind-more : (k : ℕ) → all (plain k) (rs ++ (Some c ∷ [])) ≡ (eqb (bounds_kind b) k && eqb (bounds_kind c) k)
  unfolding all plain
  kind-more k = all_append (plain k) rs (Some c ∷ []) ∙ rw (H.kind k, u, and-true (eqb (bounds_kind c) k), and-true (eqb (bounds_kind c) k))

  inside-more : (k : ℕ) (v : Datum) → of_kind k v ≡ true → inside_all v (rs ++ (Some c ∷ [])) ≡ (inside_bounds b v && inside_bounds c v)
  unfolding inside_all all inside
  inside-more k v h = all_append (λ r. inside r v) rs (Some c ∷ []) ∙ ap₂ ◌&&◌ (sym (H.holds k v h)) (and-true (inside_bounds c v))

intersect-leaves : (rs : List Range) (b c : Bounds) → Holds rs b → good_bounds c ≡ true → crossed_bounds c ≡ false → Leaves (rs ++ (Some c ∷ [])) (intersect b c)
unfolding good_bounds intersect inside_bounds higher_integer lower_integer
intersect-leaves rs (Real p q) (Real s t) H g u =
    let A = and_parts (good_end p) (good_end q) H.good in
    let B = and_parts (good_end s) (good_end t) g in
    record {
      good = both (good_end (higher p s)) (good_end (lower q t)) (higher-good p s A.0 B.0) (lower-good q t A.1 B.1);
      kind = λ k. kind-more rs (Real p q) (Real s t) H u k ∙ and_self (eqb real_kind k);
      holds = λ k v h. within k v h A.0 A.1 B.0 B.1 ∙ sym (inside-more rs (Real p q) (Real s t) H u k v h);
    }
  where
    within : (k : ℕ) (v : Datum) → of_kind k v ≡ true → good_end p ≡ true → good_end q ≡ true → good_end s ≡ true → good_end t ≡ true
        → inside_bounds (Real (higher p s) (lower q t)) v ≡ (inside_bounds (Real p q) v && inside_bounds (Real s t) v)
    within k (real x) h P Q S T =
        let f = real-finite k x h in
        ap₂ ◌&&◌ (higher-inside p s x P S f) (lower-inside q t x Q T f) ∙ and-swap (not_below p x) (not_below s x) (not_above q x) (not_above t x)
    within k (integer z) h P Q S T = refl
    within k (boolean x) h P Q S T = refl
    within k (string x) h P Q S T = refl
    within k (enum x y) h P Q S T = refl
intersect-leaves rs (Real p q) (Integer s t) H g u = λ k. kind-more rs (Real p q) (Integer s t) H u k ∙ differ real_kind integer_kind k (λ e. omega arith)
intersect-leaves rs (Integer p q) (Real s t) H g u = λ k. kind-more rs (Integer p q) (Real s t) H u k ∙ differ integer_kind real_kind k (λ e. omega arith)
intersect-leaves rs (Integer p q) (Integer s t) H g u =
    let A = and_parts (of_kind integer_kind (integer p)) (of_kind integer_kind (integer q)) H.good in
    let B = and_parts (of_kind integer_kind (integer s)) (of_kind integer_kind (integer t)) g in
    let P = pick (λ z. of_kind integer_kind (integer z)) (lt_z p s) p s A.0 B.0 in
    let Q = pick (λ z. of_kind integer_kind (integer z)) (lt_z t q) q t A.1 B.1 in
    record {
      good = both (of_kind integer_kind (integer (higher_integer p s))) (of_kind integer_kind (integer (lower_integer q t))) P Q;
      kind = λ k. kind-more rs (Integer p q) (Integer s t) H u k ∙ and_self (eqb integer_kind k);
      holds = λ k v h. within v ∙ sym (inside-more rs (Integer p q) (Integer s t) H u k v h);
    }
  where
    within : (v : Datum) → inside_bounds (Integer (higher_integer p s) (lower_integer q t)) v ≡ (inside_bounds (Integer p q) v && inside_bounds (Integer s t) v)
    within (real x) = refl
    within (integer z) =
        ap₂ ◌&&◌ (tighter integers p s z refl refl refl) (tighter (flip integers) q t z refl refl refl) ∙ and-swap (le_z p z) (le_z s z) (le_z z q) (le_z z t)
    within (boolean x) = refl
    within (string x) = refl
    within (enum x y) = refl

-- where one more has no uncrossed range, not all have
none_more : (rs : List Range) (r : Range) → ((k : ℕ) → plain k r ≡ false) → (k : ℕ) → all (plain k) (rs ++ (r ∷ [])) ≡ false
unfolding all
none_more rs r n k = all_append (plain k) rs (r ∷ []) ∙ rw (n k) (and-false (all (plain k) rs))

crossed-plain : (b : Bounds) → crossed_bounds b ≡ true → (k : ℕ) → plain k (Some b) ≡ false
unfolding plain
crossed-plain b h k = rw h (and-false (eqb (bounds_kind b) k))

take_in-leaves : (rs : List Range) (p r : Range) → Leaves rs p → good r ≡ true → Leaves (rs ++ (r ∷ [])) (take_in p r)
unfolding take_in uncrossed good plain
take_in-leaves rs None r H g = λ k. all_append (plain k) rs (r ∷ []) ∙ rw (H k)
take_in-leaves rs (Some b) None H g = none_more rs None (λ k. refl)
take_in-leaves rs (Some b) (Some c) H g = arm (crossed_bounds c) refl
  where
    arm : (t : Bool) → crossed_bounds c ≡ t → Leaves (rs ++ (Some c ∷ [])) (take_in (Some b) (Some c))
    arm true h = rw h (none_more rs (Some c) (crossed-plain c h))
    arm false h = rw h (intersect-leaves rs b c H g h)

take_in_all-leaves : (qs : List Range) (p : Range) (rs : List Range) → Leaves qs p → all good rs ≡ true → Leaves (qs ++ rs) (take_in_all p rs)
unfolding take_in_all all
take_in_all-leaves qs p [] H g = rw (append-nil qs) H
take_in_all-leaves qs p (r ∷ rs) H g =
    let G = and_parts (good r) (all good rs) g in
    rw append_assoc at (take_in_all-leaves (qs ++ (r ∷ [])) (take_in p r) rs (take_in-leaves qs p r H G.0) G.1)

first-leaves : (r : Range) → good r ≡ true → Leaves (r ∷ []) (uncrossed r)
unfolding uncrossed good all plain inside_all inside
first-leaves None g = λ k. refl
first-leaves (Some b) g = arm (crossed_bounds b) refl
  where
    arm : (t : Bool) → crossed_bounds b ≡ t → Leaves (Some b ∷ []) (uncrossed (Some b))
    arm true h = rw h (λ k. rw (crossed-plain b h k))
    arm false h = rw h (record {
      good = g;
      kind = λ k. rw h (and-true (eqb (bounds_kind b) k && true) ∙ and-true (eqb (bounds_kind b) k));
      holds = λ k v e. sym (and-true (inside_bounds b v));
    })

pub combined-leaves : (r : Range) (rs : List Range) → all good (r ∷ rs) ≡ true → Leaves (r ∷ rs) (combined (r ∷ rs))
unfolding combined all
combined-leaves r rs g =
    let G = and_parts (good r) (all good rs) g in
    take_in_all-leaves (r ∷ []) (uncrossed r) rs (first-leaves r G.0) G.1
