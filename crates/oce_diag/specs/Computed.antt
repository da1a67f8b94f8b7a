-- Every definition of this crate and of those below it, opened: a claim that is `unfolding computed` computes.
use Rattle.std.specs.Prelude.{ℕ}
use Rattle.oce_model.specs.Computed.{computed as computed_below}
use Rattle.oce_diag.specs.Diagnostics.{connector_subject, subject_of, block_subject, block_subject_of, diagnostic, has_error, errors, warnings}
use Rattle.oce_diag.specs.Encoding.{diagnostic_bytes, report_bytes}
use Rattle.oce_diag.specs.Decoded.{severity_of, code_of, subject_from, decoded_at, diagnostic_at}
use Rattle.oce_diag.specs.Putting.{put_one, put_all}

unfoldable pub computed : ℕ
unfolding computed_below connector_subject subject_of block_subject block_subject_of diagnostic has_error errors warnings diagnostic_bytes report_bytes severity_of code_of subject_from decoded_at diagnostic_at put_one put_all
computed = 0
