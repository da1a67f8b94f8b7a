-- Diagnostics put into a report one after the other: each is written where it fits, and counted in any case.
use Rattle.std.specs.Prelude.{ℕ, suc, ◌+◌, ◌*◌, ◌≤◌, ◌<◌, ◌≡◌, cond, List, [], ◌∷◌, leb, length}
use Rattle.base.specs.Buffers.{patch}
use Rattle.numbers.specs.Bytes.{word_range}
use Rattle.oce_diag.specs.Diagnostics.{errors, warnings}
use Rattle.oce_diag.specs.Encoding.{diagnostic_size, diagnostic_bytes}
use Rattle.oce_diag.specs.declared.Diagnostic.{Diagnostic}
use Rattle.oce_diag.specs.declared.Counted.{Counted}

-- a report with d as diagnostic n, where there is room for it
unfoldable pub put_one : List ℕ → ℕ → Diagnostic → List ℕ
put_one b n d = cond (leb (diagnostic_size * n + diagnostic_size) (length b)) (patch b (diagnostic_size * n) (diagnostic_bytes d)) b

-- a report with ds from diagnostic n on
unfoldable pub put_all : List ℕ → ℕ → List Diagnostic → List ℕ
put_all b n [] = b
put_all b n (d ∷ ds) = put_all (put_one b n d) (suc n) ds

-- how many were counted
abbrev pub total : Counted → ℕ
total c = c.errors + c.warnings

-- n more can be counted: the sum stays within four bytes
abbrev pub Countable : ℕ → Counted → Type 0
Countable n c = total c + n < word_range

-- at most n more were counted
abbrev pub Adds : ℕ → Counted → Counted → Type 0
Adds n c c' = total c' ≤ total c + n

-- a report b in which c were counted has become b' with c', by ds
pub record Put (b : List ℕ) (c : Counted) (ds : List Diagnostic) (b' : List ℕ) (c' : Counted) : Type 0 where
  pub errors : c'.errors ≡ c.errors + errors ds
  pub warnings : c'.warnings ≡ c.warnings + warnings ds
  pub bytes : b' ≡ put_all b (total c) ds
