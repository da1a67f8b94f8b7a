-- What the code gives for all of rule 6 (FORMAT 16).
use Rattle.std.specs.Prelude.{ℕ, ◌+◌, ◌*◌, ◌≤◌, ◌<◌, ◌≡◌, List, ltb}
use Rattle.oce_model.specs.Format.{most_connectors, most_connections, most_boundary_outputs}
use Rattle.oce_model.specs.Model.{Model, model_of, connector_count}
use Rattle.oce_diag.specs.Reporting.{Puts}
use Rattle.oce_diag.specs.declared.report.Report.{Report}
use Rattle.unify.specs.Unify.{rule6}
use Rattle.unify_clusters.specs.Slots.{SlotTable, filled}
use Rattle.unify_links.specs.Links.{link_count}
use Rattle.unify_cluster.specs.Clusters.{most_cluster_faults}

-- the most links that an accepted image has
abbrev pub most_links : ℕ
most_links = most_connections + most_boundary_outputs

-- arrays of these lengths have room for the first links of m's connectors, for its links, and for the members of any cluster
pub record Roomy (m : Model) (connectors links members : ℕ) : Type 0 where
  pub heads : connector_count m ≤ connectors
  pub nexts : link_count m ≤ links
  pub gathered : link_count m < members
  pub most : link_count m ≤ most_links
  pub short : (connectors ≤ most_connectors) × (links ≤ most_links) × (members ≤ most_links + 1)

-- the most that 6.1 to 6.7 report
abbrev pub most_roots_faults : ℕ
most_roots_faults = most_cluster_faults * most_connectors

-- the most that rule 6 reports: of each root what its cluster gives, and 6.8
abbrev pub most_unified_faults : ℕ
most_unified_faults = (most_cluster_faults + 1) * most_connectors

-- the slots of image s after all roots, and a report r that has become r' by rule 6
pub record Unified (s : List ℕ) (t : SlotTable) (r r' : Report) : Type 0 where
  pub slots : t ≡ filled s
  pub puts : Puts ((most_cluster_faults + 1) * connector_count (model_of s)) (rule6 (model_of s) (ltb 0 r.counted.errors)) r r'
