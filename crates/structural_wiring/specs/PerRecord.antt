-- How much rules 2 and 4 can report.
use Rattle.std.specs.Prelude.{ℕ}

-- the most that rule 2 reports of a boundary output
abbrev pub most_output_faults : ℕ
most_output_faults = 2

-- the most that rule 4 reports of a connection
abbrev pub most_connection_faults : ℕ
most_connection_faults = 3
