-- One cluster of rule 6 as code has it (FORMAT 16).
use Rattle.std.specs.Prelude.{ℕ, ◌+◌, ◌<◌, ◌≡◌, false, []}
use Rattle.oce_model.specs.Model.{model_of, connector_count}
use Rattle.unify.specs.Slots.{Slots}
use Rattle.unify.specs.Unify.{declarations}
use Rattle.unify.specs.declared.Detail.{Detail}
use Rattle.unify_seen.specs.Seen.{shows}
use Rattle.unify_cluster.specs.declared.ClusterMembers.{ClusterMembers}

-- how many details are filled
abbrev pub unified_count : ℕ
unified_count = 6

-- the most that is reported of a cluster: an error a detail that is filled, and the warning
abbrev pub most_cluster_faults : ℕ
most_cluster_faults = unified_count + 1

-- its root is a connector, and what doesn't show in what was seen of them none of them declares
pub record Stands (σ : Slots) (c : ClusterMembers) : Type 0 where
  pub root : c.root.0 < connector_count (model_of c.image.now)
  pub unseen : (d : Detail) → shows d c.seen.real c.seen.integer ≡ false → declarations d σ c.members.now ≡ []
