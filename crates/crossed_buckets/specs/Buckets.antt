-- The members of rule 5.4 in buckets by the bytes of their iris: members with one iri are in one bucket, so a group that is reported is in a bucket
-- of several members, one of them external.
use Rattle.std.specs.Prelude.{ℕ, ◌-◌, ◌%◌, ◌<◌, ◌≡◌, Bool, true, false, cond, ◌&&◌, List, eqb, length, get_or, Option, Some, None}
use Rattle.base.specs.Lists.{each, steps, only}
use Rattle.numbers.specs.Bytes.{le64}
use Rattle.oce_model.specs.Model.{Model}
use Rattle.crossed_bounds.specs.CrossedBounds.{member_iri, member_external, member_key}
use Rattle.crossed_members.specs.Members.{member_joins}
use Rattle.crossed_buckets.specs.declared.Known.{Known}
use Rattle.crossed_buckets.specs.declared.Known.TheVariants.{Empty, OneInner, SeveralInner, OneExternal, Crowded}
use Rattle.crossed_buckets.specs.declared.Member.{Member}

-- how many buckets there are: a prime, so that each of the eight bytes tells
abbrev pub bucket_count : ℕ
bucket_count = 1021

-- the bucket of a byte string, by its last eight bytes or all of fewer
unfoldable pub bucket_of : List ℕ → ℕ
bucket_of t = le64 t (length t - 8) % bucket_count

-- ---- what is known of a bucket's members: none, one that isn't external, several that aren't, one external, several with an external one

-- the same with one member more, which is external or not
unfoldable pub noted : Known → Bool → Known
noted Empty e = cond e OneExternal OneInner
noted OneInner e = cond e Crowded SeveralInner
noted SeveralInner e = cond e Crowded SeveralInner
noted OneExternal e = Crowded
noted Crowded e = Crowded

-- several, one of them external
abbrev pub crowded : Known → Bool
crowded Empty = false
crowded OneInner = false
crowded SeveralInner = false
crowded OneExternal = false
crowded Crowded = true

module _ (m : Model) where
  -- a member's bucket
  unfoldable pub member_bucket : ℕ → ℕ
  member_bucket x = bucket_of (member_key m x)

  -- bucket b, of which k is known, after member x
  unfoldable pub after_member : ℕ → ℕ → Known → Known
  after_member b x k = cond (member_joins m x && eqb (member_bucket x) b) (noted k (member_external m x)) k

  -- bucket b after the first n members
  unfoldable pub known : ℕ → ℕ → Known
  known n b = steps n (after_member b) Empty

  -- x takes part, and its bucket, after n members, is crowded
  unfoldable pub is_crowded : ℕ → ℕ → Bool
  is_crowded n x = member_joins m x && crowded (known n (member_bucket x))

  -- those of the first i members
  unfoldable pub crowded_below : ℕ → ℕ → List ℕ
  crowded_below n i = each i (λ x. only (is_crowded n x) x)

  -- of the first n members those of crowded buckets
  abbrev pub crowded_members : ℕ → List ℕ
  crowded_members n = crowded_below n n

  -- the bucket of member x, if it takes part
  unfoldable pub place_of : ℕ → Option ℕ
  place_of x = cond (member_joins m x) (Some (member_bucket x)) None

  -- member x as code has it
  unfoldable pub member_value : ℕ → Member
  member_value x = record { iri = member_iri m x; bucket = place_of x }

-- what stands for a member that is not there
abbrev pub no_member : Member
no_member = record { iri = 0; bucket = None }

-- a bucket is crowded, by what is known of each
abbrev pub at_crowd : List Known → Option ℕ → Bool
at_crowd column None = false
at_crowd column (Some b) = crowded (get_or column b Empty)

-- the bucket of a member
abbrev pub is_in_crowd : List Known → Member → Bool
is_in_crowd column x = at_crowd column x.bucket

-- those of the first n members whose bucket is crowded
unfoldable pub collected_below : List Member → List Known → ℕ → List ℕ
collected_below members column n = each n (λ x. only (is_in_crowd column (get_or members x no_member)) x)

-- those of all
abbrev pub collected : List Member → List Known → List ℕ
collected members column = collected_below members column (length members)

-- the column has what is known of each bucket after the first n members
pub record Noted (m : Model) (n : ℕ) (column : List Known) : Type 0 where
  pub long : length column ≡ bucket_count
  pub at : (b : ℕ) → b < bucket_count → get_or column b Empty ≡ known m n b
