-- What the printing program leaves in the buffers that it is lent.
use Rattle.std.specs.Prelude.{ℕ, ◌+◌, ◌≤◌, ◌≡◌, List, length, replicate, Ok, Err}
use Rattle.outcome.specs.Answer.{Answer, answer, report_after}

-- The program lends 65,535 bytes for each buffer (FORMAT 19); the report's are 0 before the call
abbrev pub longest_report : ℕ
longest_report = 65535

unfoldable pub lent_report : List ℕ
lent_report = replicate longest_report 0

-- how many diagnostics an answer counts
abbrev pub count_of : Answer → ℕ
count_of (Ok c) = c.errors + c.warnings
count_of (Err r) = 0

-- a check of the image s answered a, and left that report in a buffer of such a length
pub record Reported (s : List ℕ) (a : Answer) (report : List ℕ) : Type 0 where
  pub filled : List ℕ
  pub lent : List ℕ
  pub answer : a ≡ answer s (length filled) (length lent)
  pub bytes : report ≡ report_after s filled lent
  pub short : length lent ≤ longest_report
