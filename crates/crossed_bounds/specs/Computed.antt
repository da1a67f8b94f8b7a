-- Every definition of this crate and of those below it, opened: a claim that is `unfolding computed` computes.
use Rattle.std.specs.Prelude.{ℕ}
use Rattle.structural.specs.Computed.{computed as computed_below}
use Rattle.crossed_bounds.specs.Ranges.{finite_end, real_end, real_range, integer_range, range_of, crossed_ends, crossed_bounds, crossed, higher, lower, higher_integer, lower_integer, intersect, uncrossed, take_in, take_in_all, combined}
use Rattle.crossed_bounds.specs.Values.{of_kind, of_type, not_below, not_above, inside_bounds, inside}
use Rattle.crossed_bounds.specs.Groups.{enter, enter_all, extend, extend_all, with_key}
use Rattle.crossed_bounds.specs.CrossedBounds.{crossed_faults, connector_crossed, input_crossed, output_crossed, member_iri, member_attrs, member_external, member_key, joins, groups, member_ranges, group_faults, groups_faults, rule5}
use Rattle.crossed_bounds.specs.Counts.{plain, one_kind, counts, inside_all}

unfoldable pub computed : ℕ
unfolding computed_below finite_end real_end real_range integer_range range_of crossed_ends crossed_bounds crossed higher lower higher_integer lower_integer intersect uncrossed take_in take_in_all combined of_kind of_type not_below not_above inside_bounds inside enter enter_all extend extend_all with_key crossed_faults connector_crossed input_crossed output_crossed member_iri member_attrs member_external member_key joins groups member_ranges group_faults groups_faults rule5 plain one_kind counts inside_all
computed = 0
