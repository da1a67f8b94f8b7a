-- The members of the groups of rule 5.4 by number, and which of them take part. FORMAT 14.
use Rattle.std.specs.Prelude.{ℕ, ◌+◌, ◌<◌, Bool, true, cond, List}
use Rattle.base.specs.Lists.{each, only}
use Rattle.oce_model.specs.Model.{Model, connector, connector_count, boundary_input_count, is_connector}
use Rattle.crossed_bounds.specs.Ranges.{range_of}
use Rattle.crossed_bounds.specs.CrossedBounds.{member_attrs, joins}
use Rattle.crossed_bounds.specs.Ends.{Range}

-- how many members there are
abbrev pub member_count : Model → ℕ
member_count m = connector_count m + boundary_input_count m

-- x is one
abbrev pub is_member : Model → ℕ → Type 0
is_member m x = x < member_count m

-- a member's range
abbrev pub member_range : Model → ℕ → Range
member_range m x = range_of m.defaults (member_attrs m x)

-- an In with an iri, or a boundary input
unfoldable pub member_joins : Model → ℕ → Bool
member_joins m x = cond (is_connector m x) (joins (connector m x)) true

-- those of the first n that take part
unfoldable pub joining : Model → ℕ → List ℕ
joining m n = each n (λ x. only (member_joins m x) x)
