-- What the steps of a checking call give.
use Rattle.std.specs.Prelude.{ℕ, ◌≤◌, ◌≡◌, List, length, take}
use Rattle.oce_diag.specs.Diagnostics.{errors, warnings}
use Rattle.oce_diag.specs.Putting.{total}
use Rattle.oce_diag.specs.Encoding.{report_bytes}
use Rattle.oce_diag.specs.declared.Counted.{Counted}
use Rattle.unify_clusters.specs.Slots.{SlotTable, filled}
use Rattle.outcome.specs.Answer.{Answer, report_of, report_size, answer, filled_after, report_after}
use Rattle.rules.specs.Ran.{most_diagnostics}

-- the answer and both buffers after a call: s is the image, f and r the buffers at entry, f' and r' at exit
pub record Answered (s f r : List ℕ) (a : Answer) (f' r' : List ℕ) : Type 0 where
  pub answer : a ≡ answer s (length f) (length r)
  pub filled : f' ≡ filled_after s f r
  pub report : r' ≡ report_after s f r

-- the diagnostics of image s, counted, and its slots after all roots
pub record Tallied (s : List ℕ) (t : SlotTable) (c : Counted) : Type 0 where
  pub errors : c.errors ≡ errors (report_of s)
  pub warnings : c.warnings ≡ warnings (report_of s)
  pub few : total c ≤ most_diagnostics
  pub slots : t ≡ filled s

-- a buffer that holds an image's report, if that fits
pub record Early (s b : List ℕ) : Type 0 where
  pub bytes : report_size (report_of s) ≤ length b → take (report_size (report_of s)) b ≡ report_bytes (report_of s)
