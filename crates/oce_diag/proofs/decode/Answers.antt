-- `oce_diag::decode` meets its contract: each number where it stands.
use Rattle.oce_diag.specs.Diagnostics.{diagnostic}
use Rattle.oce_diag.specs.Decoded.{decoded_at}
use Rattle.oce_diag.proofs.decode.Goals as goal

pub returns : goal.returns
unfolding decoded_at diagnostic
returns c = cc
