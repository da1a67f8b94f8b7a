-- What the functions over one member return, and what their loops leave.
use Prim.Native.Nat.{ℕ, ◌+◌, ◌-◌, ◌*◌, ◌%◌, ◌≤◌, ◌<◌, ◌^◌}
use native.Mathlib.Decide.{ℕ_discrete}
use native.Mathlib.Numerals.{add-one}
use native.Mathlib.Omega.{arith}
use mathlib.Core.Path.{◌≡◌, refl, sym, ap, ◌∙◌}
use mathlib.Core.Bool.{Bool, true, false, cond, ◌&&◌}
use mathlib.Core.List.{List, [], ◌∷◌, ◌++◌, append-nil}
use Rattle.std.specs.Prelude.{Some, None}
use lib.Dec.{eqb}
use lib.ListN.{length, get_or, take, set, replicate, length-set, length-replicate, get_or-replicate}
use lib.Seq.{take-suc-set, get_or-set_same, get_or-set_other}
use borrow.Author.Tests.{eq-eqb, ne_eqb}
use Rattle.base.specs.Lists.{each, tab, steps, only}
use Rattle.base.proofs.Lists.{each_next, each_same, length-tab, get_or-tab, steps_next}
use Rattle.numbers.specs.Bytes.{byte, le_at, le64}
use Rattle.numbers.proofs.Bytes.{le-add, le-past}
use Rattle.oce_model.specs.Model.{Model, text}
use Rattle.crossed_bounds.specs.CrossedBounds.{member_iri, member_external, member_key}
use Rattle.crossed_members.specs.Members.{member_joins}
use Rattle.crossed_buckets.specs.Buckets.{bucket_count, bucket_of, crowded, noted, member_bucket, place_of, member_value, no_member, after_member, known, is_crowded, at_crowd, is_in_crowd, collected, collected_below, crowded_below, crowded_members, Noted}
use Rattle.crossed_buckets.specs.declared.Known.{Known}
use Rattle.crossed_buckets.specs.declared.Known.TheVariants.{Empty}
use Rattle.crossed_buckets.specs.declared.Member.{Member}

-- ---- the number of a few bytes

module _ (s : List ℕ) (at : ℕ) {low : ℕ} where
  -- bytes past the end count as 0
  pub le-lower : (v w : ℕ) → low ≡ le_at v s at → length s ≤ at + v → low ≡ le_at (v + w) s at
  le-lower v w e h = e ∙ rw (le-add v w s at, ← (le-past w s (at + v) h)) (omega arith)

  pub le-joined : (v w : ℕ) {high : ℕ} → low ≡ le_at v s at → high ≡ le_at w s (at + v) → low + 256 ^ v * high ≡ le_at (v + w) s at
  le-joined v w e f = rw (e, f, le-add v w s at)

  pub le-one : low ≡ byte s at → low ≡ le_at 1 s at
  unfolding le_at
  le-one e = e ∙ omega arith

-- ---- one member

module _ (t : List ℕ) {h r : ℕ} where
  pub bucket-short : h ≡ le64 t 0 → length t < 8 → r ≡ h % bucket_count → r ≡ bucket_of t
  unfolding bucket_of
  bucket-short e l f = let z : length t - 8 ≡ 0 = omega arith in f ∙ rw (z, e)

  pub bucket-long : h ≡ le64 t (length t - 8) → r ≡ h % bucket_count → r ≡ bucket_of t
  unfolding bucket_of
  bucket-long e f = f ∙ rw e

bucket-small : (m : Model) (x : ℕ) → member_bucket m x < bucket_count
unfolding member_bucket bucket_of
bucket-small m x = omega arith

module _ (m : Model) (x : ℕ) {i : ℕ} (e : i ≡ member_iri m x) where
  -- a member that takes part, by the bucket of its iri's bytes
  pub joins-value : {t : List ℕ} {b : ℕ} {j : Bool} → t ≡ text m i → b ≡ bucket_of t → j ≡ member_joins m x → j ≡ true → record { iri = i; bucket = Some b } ≡ member_value m x
  unfolding member_value place_of member_bucket member_key
  joins-value f g h k = rw (← h, k, g, f, e)

  pub stays-value : {j : Bool} → j ≡ member_joins m x → j ≡ false → record { iri = i; bucket = None } ≡ member_value m x
  unfolding member_value place_of
  stays-value h k = rw (← h, k, e)

-- what the bucket of a member says
module _ (m : Model) (x : ℕ) where
  placed-in : {b : ℕ} → place_of m x ≡ Some b → (member_joins m x ≡ true) × (b ≡ member_bucket m x)
  unfolding place_of
  placed-in {b} e = arm (member_joins m x) e
    where
      arm : (t : Bool) → cond t (Some (member_bucket m x)) None ≡ Some b → (t ≡ true) × (b ≡ member_bucket m x)
      arm true h = (refl, cc)
      arm false h = absurd (cc)

  placed-out : place_of m x ≡ None → member_joins m x ≡ false
  unfolding place_of
  placed-out e = arm (member_joins m x) e
    where
      arm : (t : Bool) → cond t (Some (member_bucket m x)) None ≡ None → t ≡ false
      arm true h = absurd (cc)
      arm false h = refl

module _ (m : Model) (x : ℕ) {c : Member} (f : c ≡ member_value m x) where
  value-place : c.bucket ≡ place_of m x
  unfolding member_value
  value-place = ap (λ (z : Member). z.bucket) f

  -- the bucket of a member is one
  pub value-inside : {b : ℕ} → c.bucket ≡ Some b → b < bucket_count
  value-inside {b} e = let p = placed-in m x (sym value-place ∙ e) in omega (arith, p.1, bucket-small m x)

-- ---- what is known of each bucket

known_next : (m : Model) (x b : ℕ) → known m (x + 1) b ≡ cond (member_joins m x && eqb (member_bucket m x) b) (noted (known m x b) (member_external m x)) (known m x b)
unfolding known after_member
known_next m x b = steps_next x (after_member m b) Empty

module _ {m : Model} where
  pub noted-start : Noted m 0 (replicate bucket_count Empty)
  unfolding known steps
  noted-start = record { long = length-replicate {A = Known} bucket_count Empty; at = λ b h. get_or-replicate {A = Known} bucket_count b Empty Empty h }

  module _ {x : ℕ} {column : List Known} {c : Member} (v : Noted m x column) (f : c ≡ member_value m x) where
    pub noted-skip : c.bucket ≡ None → Noted m (x + 1) column
    noted-skip e = let z = placed-out m x (sym (value-place m x f) ∙ e) in record { long = v.long; at = λ c h. v.at c h ∙ sym (known_next m x c ∙ rw z) }

    pub noted-turn : {b : ℕ} {k : Known} {e : Bool} → c.bucket ≡ Some b → e ≡ member_external m x → k ≡ noted (get_or column b Empty) e → Noted m (x + 1) (set column b k)
    noted-turn {b} {k} {e} q g i = record { long = length-set column b k ∙ v.long; at = λ c h. arm c h (ℕ_discrete c b) }
      where
        y : member_joins m x ≡ true
        y = (placed-in m x (sym (value-place m x f) ∙ q)).0

        own : b ≡ member_bucket m x
        own = (placed-in m x (sym (value-place m x f) ∙ q)).1

        l : b < bucket_count
        l = value-inside m x f q

        arm : (c : ℕ) → c < bucket_count → Dec (c ≡ b) → get_or (set column b k) c Empty ≡ known m (x + 1) c
        arm c h (yes q) =
            let s : eqb (member_bucket m x) b ≡ true = eq-eqb (member_bucket m x) b (sym own) in
            rw q (get_or-set_same column b k Empty (rw v.long l) ∙ i ∙ rw (v.at b l, g) (sym (known_next m x b ∙ rw (y, s))))
        arm c h (no q) =
            let s : eqb (member_bucket m x) c ≡ false = ne_eqb (member_bucket m x) c (λ z. q (sym (own ∙ z))) in
            get_or-set_other column b c k Empty q ∙ v.at c h ∙ sym (known_next m x c ∙ rw (y, s))

-- the first x members are noted
pub record Notes (m : Model) (members₀ members : List Member) (column : List Known) (x : ℕ) : Type 0 where
  pub long : length members ≡ length members₀
  pub front : take x members ≡ tab x (member_value m)
  pub notes : Noted m x column

module _ {m : Model} {members₀ : List Member} where
  pub notes-start : {column : List Known} → Noted m 0 column → Notes m members₀ members₀ column 0
  unfolding each
  notes-start v = record { long = refl; front = refl; notes = v }

  module _ {members : List Member} {column : List Known} {x : ℕ} (v : Notes m members₀ members column x) where
    pub notes-turn : {c : Member} {column' : List Known} → c ≡ member_value m x → Noted m (x + 1) column' → x < length members → Notes m members₀ (set members x c) column' (x + 1)
    notes-turn {c} e w h =
        let t : take (x + 1) (set members x c) ≡ take x members ++ (c ∷ []) = rw (add-one x) (take-suc-set members x c h) in
        record { long = length-set members x c ∙ v.long; front = t ∙ rw (v.front, e, each_next x (λ j. member_value m j ∷ [])); notes = w }

-- ---- collecting

-- x members are looked at, and the n of them whose bucket is crowded stand at the front
pub record Collects (members : List Member) (column : List Known) (xs₀ xs : List ℕ) (n x : ℕ) : Type 0 where
  pub few : n ≤ x
  pub long : length xs ≡ length xs₀
  pub front : take n xs ≡ collected_below members column x

module _ {members : List Member} {column : List Known} {xs₀ : List ℕ} where
  pub collects-start : Collects members column xs₀ xs₀ 0 0
  unfolding collected_below each
  collects-start = record { few = omega arith; long = refl; front = refl }

  module _ {xs : List ℕ} {n x : ℕ} (v : Collects members column xs₀ xs n x) {t : Bool} (e : t ≡ is_in_crowd column (get_or members x no_member)) where
    pub collects-take : t ≡ true → n < length xs → Collects members column xs₀ (set xs n x) (n + 1) (x + 1)
    unfolding collected_below
    collects-take f h =
        let y : is_in_crowd column (get_or members x no_member) ≡ true = sym e ∙ f in
        let s : take (n + 1) (set xs n x) ≡ take n xs ++ (x ∷ []) = rw (add-one n) (take-suc-set xs n x h) in
        record {
          few = omega (arith, v.few);
          long = length-set xs n x ∙ v.long;
          front = s ∙ rw (v.front, each_next x (λ z. only (is_in_crowd column (get_or members z no_member)) z), y);
        }

    pub collects-pass : t ≡ false → Collects members column xs₀ xs n (x + 1)
    unfolding collected_below
    collects-pass f =
        let y : is_in_crowd column (get_or members x no_member) ≡ false = sym e ∙ f in
        record {
          few = omega (arith, v.few);
          long = v.long;
          front = v.front ∙ sym (rw (each_next x (λ z. only (is_in_crowd column (get_or members z no_member)) z), y) (append-nil (collected_below members column x)));
        }

-- by the members, and what is known of their buckets after all
module _ (m : Model) (n : ℕ) {column : List Known} (v : Noted m n column) where
  crowded-at : (x : ℕ) → is_in_crowd column (member_value m x) ≡ is_crowded m n x
  unfolding member_value place_of is_crowded
  crowded-at x = arm (member_joins m x)
    where
      arm : (t : Bool) → at_crowd column (cond t (Some (member_bucket m x)) None) ≡ (t && crowded (known m n (member_bucket m x)))
      arm true = rw (v.at (member_bucket m x) (bucket-small m x))
      arm false = refl

  pub collected-crowded : {members : List Member} {xs : List ℕ} → members ≡ tab n (member_value m) → xs ≡ collected members column → xs ≡ crowded_members m n
  unfolding collected_below crowded_below
  collected-crowded e f =
      f ∙ rw (e, length-tab n (member_value m)) (each_same n _ _ (λ x h. ap (λ t. only t x) (ap (is_in_crowd column) (get_or-tab n (member_value m) x no_member h) ∙ crowded-at x)))
