-- Rule 5.4 of the model of an image: a group is reported exactly if it counts and no value lies in every range.
use Prim.Native.Nat.{ℕ, suc, ◌-◌, ◌<◌, ◌^◌}
use native.Mathlib.Decide.{dec_lt}
use native.Mathlib.Omega.{arith}
use mathlib.Core.Path.{◌≡◌, refl, ap}
use mathlib.Core.Logic.{◌⊎◌}
use mathlib.Core.Bool.{Bool, true, false, cond, ◌&&◌}
use mathlib.Core.List.{List, [], ◌∷◌, map}
use Rattle.std.specs.Prelude.{Option, Some, None}
use lib.Dec.{eqb, ltb}
use lib.IntN.{ℤ, pos, negsuc}
use lib.ListN.{length}
use lib.Ieee.{binary64, fits, of_bits}
use lib.Ieee.Bits.{is_true, of_bits-fits}
use lib.Ieee.Scale.{finite}
use borrow.Author.Tests.{lt-ltb, le-ltb}
use Rattle.base.specs.Lists.{all, only}
use Rattle.base.proofs.Lists.{and_parts}
use Rattle.numbers.specs.Bytes.{le64, signed64, real64}
use Rattle.oce_model.specs.Format.{real_kind, integer_kind, min_bit, max_bit, head_min_at, head_max_at}
use Rattle.oce_model.specs.Attributes.{declared_at}
use Rattle.oce_model.specs.declared.Attrs.{Attrs}
use Rattle.oce_model.specs.Model.{Model, model_of}
use Rattle.oce_diag.specs.Diagnostics.{error}
use Rattle.oce_diag.specs.declared.Subject.TheVariants.{Text}
use Rattle.oce_diag.specs.declared.DiagCode.TheVariants.{CrossedBounds}
use Rattle.crossed_bounds.specs.Ranges.{finite_end, real_end, real_range, or_default, integer_range, range_of, crossed, combined}
use Rattle.crossed_bounds.specs.Values.{of_kind, fits64}
use Rattle.crossed_bounds.specs.Groups.{Group, members}
use Rattle.crossed_bounds.specs.CrossedBounds.{member_iri, member_attrs, group_faults, member_ranges, shared}
use Rattle.crossed_bounds.specs.Counts.{one_kind, counts, Common, NoCommon}
use Rattle.crossed_bounds.specs.declared.Bounds.TheVariants.{Real}
use Rattle.crossed_bounds.specs.Ends.{Range}
use Rattle.crossed_bounds.proofs.Combined.{both, good_end, good_bounds, good}
use Rattle.crossed_bounds.proofs.Meaning.{not-one-kind, none_or_some, crossed-if-none, uncrossed-if-some}

-- a group that doesn't count isn't reported; one that counts is, exactly if no value lies inside all of its ranges. The place is the number of members, the subject the iri
-- text of the first
pub record Exactly (m : Model) (g : Group) : Type 0 where
  pub uncounted : counts m g ≡ false → group_faults m g ≡ []
  pub reported : counts m g ≡ true → NoCommon (member_ranges m g)
      → group_faults m g ≡ error CrossedBounds 5 4 (Text (member_iri m g.first)) (length (members g)) ∷ []
  pub silent : counts m g ≡ true → (k : ℕ) → Common k (member_ranges m g) → group_faults m g ≡ []
  -- and one of the two it is
  pub decided : counts m g ≡ true → NoCommon (member_ranges m g) ⊎ ((k : ℕ) × Common k (member_ranges m g))

-- ---- the ends of ranges are numbers of their kind, whatever bits they are read from

end-good : (o : Option ℕ) → finite_end o ≡ true → good_end (real_end o) ≡ true
unfolding finite_end real_end good_end of_kind real64
end-good None h = refl
end-good (Some b) h = both (finite (of_bits binary64 b)) (fits binary64 (of_bits binary64 b)) h (is_true (fits binary64 (of_bits binary64 b)) (of_bits-fits binary64 b))

pub signed64-fits64 : (b : ℕ) → fits64 (signed64 b) ≡ true
unfolding signed64
signed64-fits64 b = arm (dec_lt b (2 ^ 63))
  where
    arm : Dec (b < 2 ^ 63) → fits64 (cond (ltb b (2 ^ 63)) (pos b) (negsuc (2 ^ 64 - suc b))) ≡ true
    arm (yes l) = rw (lt-ltb b (2 ^ 63) l) (lt-ltb b (2 ^ 63) l)
    arm (no l) = rw (le-ltb b (2 ^ 63) (omega arith)) (lt-ltb (2 ^ 64 - suc b) (2 ^ 63) (omega arith))

default-good : (o : Option ℕ) (d : ℤ) → fits64 d ≡ true → fits64 (or_default o d) ≡ true
default-good None d h = h
default-good (Some b) d h = signed64-fits64 b

real-good : (lo hi : Option ℕ) → good (real_range lo hi) ≡ true
unfolding real_range good good_bounds
real-good lo hi = arm (finite_end lo && finite_end hi) refl
  where
    arm : (t : Bool) → (finite_end lo && finite_end hi) ≡ t → good (cond t (Some (Real (real_end lo) (real_end hi))) None) ≡ true
    arm true h =
        let p = and_parts (finite_end lo) (finite_end hi) h in
        both (good_end (real_end lo)) (good_end (real_end hi)) (end-good lo p.0) (end-good hi p.1)
    arm false h = refl

-- what doesn't count isn't crossed
shut : (a : Bool) (r : Range) (rs : List Range) → all good (r ∷ rs) ≡ true → (a && one_kind (r ∷ rs)) ≡ false → (a && crossed (combined (r ∷ rs))) ≡ false
shut true r rs G h = not-one-kind r rs G h
shut false r rs G h = refl

module _ (m : Model) (least : fits64 m.defaults.min ≡ true) (greatest : fits64 m.defaults.max ≡ true) where
  integer-good : (lo hi : Option ℕ) → good (integer_range m.defaults lo hi) ≡ true
  unfolding integer_range good good_bounds of_kind
  integer-good lo hi = both (fits64 (or_default lo m.defaults.min)) (fits64 (or_default hi m.defaults.max)) (default-good lo m.defaults.min least) (default-good hi m.defaults.max greatest)

  pub range-good : (a : Attrs) → good (range_of m.defaults a) ≡ true
  unfolding range_of good
  range-good a = arm (eqb a.kind real_kind) (eqb a.kind integer_kind)
    where
      arm : (s t : Bool)
          → good (cond s (real_range (declared_at a min_bit) (declared_at a max_bit)) (cond t (integer_range m.defaults (declared_at a min_bit) (declared_at a max_bit)) None)) ≡ true
      arm true t = real-good (declared_at a min_bit) (declared_at a max_bit)
      arm false true = integer-good (declared_at a min_bit) (declared_at a max_bit)
      arm false false = refl

  ranges-good : (xs : List ℕ) → all good (map (λ x. range_of m.defaults (member_attrs m x)) xs) ≡ true
  unfolding all
  ranges-good [] = refl
  ranges-good (x ∷ xs) = rw (range-good (member_attrs m x)) (ranges-good xs)

  -- ---- the theorem

  pub exactly : (g : Group) → Exactly m g
  unfolding counts member_ranges group_faults
  exactly g =
      let r = range_of m.defaults (member_attrs m g.first) in
      let rs = map (λ x. range_of m.defaults (member_attrs m x)) g.others in
      let G : all good (r ∷ rs) ≡ true = ranges-good (members g) in
      record {
        uncounted = λ c. ap (λ t. only t (error CrossedBounds 5 4 (Text (member_iri m g.first)) (length (members g)))) (shut (shared m g) r rs G c);
        reported = λ c n. let p = and_parts (shared m g) (one_kind (r ∷ rs)) c in rw (p.0, crossed-if-none r rs G p.1 n);
        silent = λ c k w. rw ((and_parts (shared m g) (one_kind (r ∷ rs)) c).0, uncrossed-if-some r rs G k w);
        decided = λ c. none_or_some r rs G (and_parts (shared m g) (one_kind (r ∷ rs)) c).1;
      }

-- a model that is read from bytes is such a model
pub image-exactly : (s : List ℕ) (g : Group) → Exactly (model_of s) g
unfolding model_of
image-exactly s = exactly (model_of s) (signed64-fits64 (le64 s head_min_at)) (signed64-fits64 (le64 s head_max_at))
