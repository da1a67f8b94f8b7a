-- Every definition of this crate and of those below it, opened: a claim that is `unfolding computed` computes.
use Rattle.std.specs.Prelude.{ℕ}
use Rattle.crossed_bounds.specs.Computed.{computed as computed_below}
use Rattle.unify.specs.Details.{detail_number, kind_of, bit_of, is_text, unified_details}
use Rattle.unify.specs.Slots.{slots_of, slot, value, key, agree, put}
use Rattle.unify.specs.Clusters.{drives, sound, target, alias, driven, is_root}
use Rattle.unify.specs.Unify.{declarations, put_members, settle, fill, conflict, conflict_code, fill_faults, display_faults, fill_details, details_faults, cluster_faults, fill_root, root_faults, filled_to, filled_slots, clusters_faults, propagated_faults, propagated, rule6}

unfoldable pub computed : ℕ
unfolding computed_below detail_number kind_of bit_of is_text unified_details slots_of slot value key agree put drives sound target alias driven is_root declarations put_members settle fill conflict conflict_code fill_faults display_faults fill_details details_faults cluster_faults fill_root root_faults filled_to filled_slots clusters_faults propagated_faults propagated rule6
computed = 0
