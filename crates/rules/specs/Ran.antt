-- What a run over all rules gives.
use Rattle.std.specs.Prelude.{ℕ, ◌+◌, ◌*◌, ◌≤◌, ◌≡◌, List, length}
use Rattle.oce_model.specs.Format.{most_connectors, most_external_inputs, most_connections, most_boundary_outputs}
use Rattle.oce_model.specs.Model.{Model, model_of, connector_count}
use Rattle.oce_diag.specs.declared.Counted.{Counted}
use Rattle.oce_diag.specs.Putting.{total, Put}
use Rattle.structural_arena_ids.specs.PerRecord.{most_arena_faults}
use Rattle.structural_wiring.specs.PerRecord.{most_output_faults, most_connection_faults}
use Rattle.structural_assignment.specs.PerRecord.{most_assignment_faults}
use Rattle.crossed_records.specs.Most.{most_crossed}
use Rattle.unify_clusters.specs.Slots.{SlotTable, filled}
use Rattle.unify_clusters.specs.Unified.{most_unified_faults}
use Rattle.outcome.specs.Report.{report}

-- so many connectors, and so many external inputs, have shorter columns
abbrev pub few_records : ℕ
few_records = 192

-- columns for c connectors and e external inputs have room for a model
pub record Roomy (m : Model) (c e : ℕ) : Type 0 where
  pub few : connector_count m ≤ most_connectors
  pub connectors : connector_count m ≤ c
  pub externals : length m.external_inputs ≤ e
  pub short : (c ≤ most_connectors) × (e ≤ most_external_inputs)

-- nothing counted
abbrev pub none : Counted
none = record { errors = 0; warnings = 0 }

-- the most that rules 1 and 2, 3 and 4, and all before rule 6 report
abbrev pub most_first_two : ℕ
most_first_two = most_arena_faults + most_output_faults * most_boundary_outputs

abbrev pub most_second_two : ℕ
most_second_two = most_assignment_faults * most_connectors + most_connection_faults * most_connections

abbrev pub most_before6 : ℕ
most_before6 = most_first_two + most_second_two + most_crossed

-- the most that all rules report
abbrev pub most_diagnostics : ℕ
most_diagnostics = most_before6 + most_unified_faults

-- the slots are those of image s after all roots, and a report b has become b' by all its diagnostics, c of them
pub record Ran (s : List ℕ) (t : SlotTable) (b b' : List ℕ) (c : Counted) : Type 0 where
  pub slots : t ≡ filled s
  pub put : Put b none (report (model_of s)) b' c
  pub few : total c ≤ most_diagnostics
