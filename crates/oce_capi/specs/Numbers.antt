-- The answers as a caller in C sees them.
use Rattle.std.specs.Prelude.{Ok, Err}
use Rattle.outcome.specs.Answer.{Answer}
use Rattle.batch.specs.Answer.{BatchAnswer}
use Rattle.oce_capi.specs.declared.OceAnswer.{OceAnswer}
use Rattle.oce_capi.specs.declared.OceBatchAnswer.{OceBatchAnswer}

-- The numbers of each case of the answer, FORMAT 1 and 6: a refusal's number and offset (the bytes needed for 9 and 10), no errors and no warnings; 0 for no refusal and
-- for its offset, then 'the number of errors and of warnings'
abbrev pub numbers : Answer → OceAnswer
numbers (Err r) = record { refusal = r.number; at = r.offset; errors = 0; warnings = 0 }
numbers (Ok c) = record { refusal = 0; at = 0; errors = c.errors; warnings = c.warnings }

-- and of a batch's answer, FORMAT 22: a refusal's number, the field's offset (the bytes needed for 12) and nothing written; 0 for no refusal and for its offset, then the bytes written
abbrev pub three_numbers : BatchAnswer → OceBatchAnswer
three_numbers (Err r) = record { refusal = r.number; at = r.offset; written = 0 }
three_numbers (Ok n) = record { refusal = 0; at = 0; written = n }
