-- How much rule 5 may report.
use Rattle.std.specs.Prelude.{ℕ, ◌+◌}
use Rattle.oce_model.specs.Format.{most_connectors, most_boundary_inputs, most_boundary_outputs}

-- the most diagnostics of rule 5: one for each connector, boundary input and boundary output, and one for each member of a group
abbrev pub most_crossed : ℕ
most_crossed = most_connectors + most_boundary_inputs + most_boundary_outputs + (most_connectors + most_boundary_inputs)
