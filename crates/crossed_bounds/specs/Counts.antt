-- When a group of 5.4 counts, and values that lie inside all of its ranges. FORMAT 14. That it is reported exactly if there is none is shown in proofs/Exactly.antt.
use Rattle.std.specs.Prelude.{None, Some, ℕ, ◌≡◌, Bool, true, false, not, ◌&&◌, ◌||◌, List, eqb}
use Rattle.base.specs.Lists.{all}
use Rattle.oce_model.specs.Format.{real_kind, integer_kind}
use Rattle.oce_model.specs.Model.{Model}
use Rattle.crossed_bounds.specs.Ranges.{crossed_bounds}
use Rattle.crossed_bounds.specs.Values.{Datum, of_kind, inside}
use Rattle.crossed_bounds.specs.Groups.{Group}
use Rattle.crossed_bounds.specs.CrossedBounds.{member_ranges, shared}
use Rattle.crossed_bounds.specs.declared.Bounds.{Bounds}
use Rattle.crossed_bounds.specs.declared.Bounds.TheVariants.{Real, Integer}
use Rattle.crossed_bounds.specs.Ends.{Range}

-- a range's kind
abbrev pub bounds_kind : Bounds → ℕ
bounds_kind (Real lo hi) = real_kind
bounds_kind (Integer lo hi) = integer_kind

-- an uncrossed range of kind k
unfoldable pub plain : ℕ → Range → Bool
plain k None = false
plain k (Some b) = eqb (bounds_kind b) k && not (crossed_bounds b)

-- all have an uncrossed range, and of one kind
unfoldable pub one_kind : List Range → Bool
one_kind rs = all (plain real_kind) rs || all (plain integer_kind) rs

-- the group counts: the id of a member connector is external, there are two or more members, and all have an uncrossed range, of one kind
unfoldable pub counts : Model → Group → Bool
counts m g = shared m g && one_kind (member_ranges m g)

-- the value lies inside all ranges
unfoldable pub inside_all : Datum → List Range → Bool
inside_all v rs = all (λ r. inside r v) rs

-- a value of kind k lies inside all ranges
pub record Common (k : ℕ) (rs : List Range) : Type 0 where
  pub value : Datum
  pub of-kind : of_kind k value ≡ true
  pub inside-all : inside_all value rs ≡ true

-- no value, of any kind, lies inside all ranges
abbrev pub NoCommon : List Range → Type 0
NoCommon rs = (k : ℕ) (v : Datum) → of_kind k v ≡ true → inside_all v rs ≡ false
