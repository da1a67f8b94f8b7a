-- What rule 1 reports of a port, from the ids that were read of a block, and how much it can report.
use Rattle.std.specs.Prelude.{ℕ, ◌+◌, ◌*◌, not, List, get_or, ltb}
use Rattle.base.specs.Lists.{only}
use Rattle.oce_model.specs.Format.{most_ports, most_blocks, most_connectors}
use Rattle.oce_diag.specs.Diagnostics.{error}
use Rattle.oce_diag.specs.declared.Diagnostic.{Diagnostic}
use Rattle.oce_diag.specs.declared.Subject.{Subject}
use Rattle.oce_diag.specs.declared.DiagCode.TheVariants.{MalformedDocument}

-- port j of those that have the ids, in a model of n connectors
unfoldable pub port_fault : ℕ → Subject → ℕ → List ℕ → ℕ → List Diagnostic
port_fault n subject detail ids j = only (not (ltb (get_or ids j 0) n)) (error MalformedDocument 1 detail subject j)

-- the most that rule 1 reports of a block: its id, and each port
abbrev pub most_block_faults : ℕ
most_block_faults = 1 + 2 * most_ports

-- of a connector: its id and its block
abbrev pub most_connector_faults : ℕ
most_connector_faults = 2

-- of a model
abbrev pub most_arena_faults : ℕ
most_arena_faults = most_block_faults * most_blocks + most_connector_faults * most_connectors
