-- `oce_diag::diagnostic_at` meets its contract.
use borrow.Author.Rules.{rules}
use Rattle.oce_diag.specs.Decoded.{diagnostic_at}
use Rattle.oce_diag.proofs.diagnostic_at.Goals as goal

pub decode-requires : goal.decode-requires
unfolding diagnostic_at
decode-requires c = search rules

pub returns : goal.returns
unfolding diagnostic_at
returns c = search rules
