-- `oce_diag::encode` meets its contract: the bytes are those of the definition, one by one.
use Rattle.oce_diag.proofs.Encoding.{encoded}
use Rattle.oce_diag.proofs.encode.Goals as goal

pub returns : goal.returns
returns c = encoded _ c.severity_number.ensures c.code_number.ensures c.subject_kind.ensures c.subject_number.ensures c.to_le_bytes.ensures c.to_le_bytes-2.ensures
