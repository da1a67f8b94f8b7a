-- `structural_arena_ids::put_ports` meets its contract: a port a turn.
use Rattle.oce_diag.specs.Reporting.{Turns}
use Rattle.structural_arena_ids.specs.PerRecord.{port_fault}
use Rattle.structural_arena_ids.proofs.put_ports.Given as goal

abbrev pub invariant-loop-j : goal.invariant-loop-j
invariant-loop-j l = Turns (port_fault l.n l.subject l.detail l.ids) 1 l.initial.report l.report l.j
