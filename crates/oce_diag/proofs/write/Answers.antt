-- `oce_diag::write` meets its contract: the diagnostic's bytes where they fit, else nothing.
use mathlib.Core.Path.{◌≡◌, sym, ◌∙◌}
use mathlib.Core.List.{List}
use Prim.Native.Nat.{ℕ, ◌+◌, ◌*◌, ◌≤◌, ◌<◌}
use lib.ListN.{length}
use borrow.Author.Rules.{rules}
use Rattle.base.specs.Buffers.{patch}
use Rattle.oce_diag.specs.Encoding.{diagnostic_size, diagnostic_bytes}
use Rattle.oce_diag.specs.Putting.{put_one}
use Rattle.oce_diag.specs.declared.Diagnostic.{Diagnostic}
use Rattle.oce_diag.proofs.Putting.{put_one-room, put_one-full}
use Rattle.oce_diag.proofs.write.Goals as goal

module _ (b : List ℕ) (n : ℕ) (d : Diagnostic) where
  room : {b' bs : List ℕ} → b' ≡ patch b (diagnostic_size * n) bs → bs ≡ diagnostic_bytes d → diagnostic_size * n + diagnostic_size ≤ length b → b' ≡ put_one b n d
  room e f h = e ∙ rw f (sym (put_one-room b n d h))

  full : length b < diagnostic_size * n + diagnostic_size → b ≡ put_one b n d
  full h = sym (put_one-full b n d h)

pub returns-then-at-report : goal.returns-then-at-report
returns-then-at-report c = search (room, rules)

pub returns-else-at-report : goal.returns-else-at-report
returns-else-at-report c = search (full, rules)
