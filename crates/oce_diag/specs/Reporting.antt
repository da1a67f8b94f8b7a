-- A report as code holds it: the caller's bytes and what was counted, with diagnostics put into it.
use Rattle.std.specs.Prelude.{ℕ, ◌*◌, ◌≡◌, List}
use Rattle.base.specs.Lists.{each}
use Rattle.oce_diag.specs.Putting.{Countable, Adds, Put}
use Rattle.oce_diag.specs.declared.Diagnostic.{Diagnostic}
use Rattle.oce_diag.specs.declared.report.Report.{Report}

-- n more can be counted
abbrev pub Room : ℕ → Report → Type 0
Room n r = Countable n r.counted

-- r has become r' by ds, at most n of them; it is over the same bytes of the caller's
pub record Puts (n : ℕ) (ds : List Diagnostic) (r r' : Report) : Type 0 where
  pub put : Put r.bytes.now r.counted ds r'.bytes.now r'.counted
  pub few : Adds n r.counted r'.counted
  pub same : r'.bytes.ghost_name ≡ r.bytes.ghost_name

-- a loop that puts f i in turn i, at most k of them, has come to turn i
pub record Turns (f : ℕ → List Diagnostic) (k : ℕ) (r₀ r : Report) (i : ℕ) : Type 0 where
  pub puts : Puts (k * i) (each i f) r₀ r
