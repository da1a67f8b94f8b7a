-- Lists of diagnostics whose numbers fit, as the rules make them.
use Prim.Native.Nat.{ℕ, ◌<◌}
use mathlib.Core.Logic.{◌⊎◌, inl, inr}
use mathlib.Core.Bool.{Bool, true, false, cond}
use mathlib.Core.List.Memᴰ
use mathlib.Core.List.{List, [], ◌∷◌, ◌++◌, Memᴰ}
use Rattle.base.specs.Lists.{each, only}
use Rattle.base.proofs.Members.{each-mem, only-is}
use Rattle.oce_diag.specs.Diagnostics.{diagnostic}
use Rattle.oce_diag.specs.Encoding.{subject_number}
use Rattle.oce_diag.specs.declared.Severity.{Severity}
use Rattle.oce_diag.specs.declared.DiagCode.{DiagCode}
use Rattle.oce_diag.specs.declared.Subject.{Subject}
use Rattle.oce_diag.specs.declared.Diagnostic.{Diagnostic}
use Rattle.numbers.specs.Bytes.{word_range}
use Rattle.oce_diag.specs.Decoded.{Fitting, AllFitting}

-- a diagnostic from its parts
pub fits : (severity : Severity) (code : DiagCode) (rule detail : ℕ) (subject : Subject) (place : ℕ) → subject_number subject < word_range → place < word_range → Fitting (diagnostic severity code rule detail subject place)
unfolding diagnostic
fits severity code rule detail subject place n p = record { number = n; place = p }

pub all_none : AllFitting []
all_none = record { each = λ d m. absurd (Memᴰ.not-nil m) }

pub all_one : {d : Diagnostic} → Fitting d → AllFitting (d ∷ [])
all_one {d} f = record { each = λ e m. rw (Memᴰ.eq_of_singleton m) f }

pub all-only : (b : Bool) {d : Diagnostic} → Fitting d → AllFitting (only b d)
all-only b {d} f = record { each = λ e m. rw (only-is b e d m) f }

pub all_both : {xs ys : List Diagnostic} → AllFitting xs → AllFitting ys → AllFitting (xs ++ ys)
all_both {xs} {ys} f g = record { each = λ d m. arm d (Memᴰ.append_cases xs m) }
  where
    arm : (d : Diagnostic) → Memᴰ d xs ⊎ Memᴰ d ys → Fitting d
    arm d (inl k) = f.each d k
    arm d (inr k) = g.each d k

pub all-cond : (b : Bool) {xs ys : List Diagnostic} → AllFitting xs → AllFitting ys → AllFitting (cond b xs ys)
all-cond true f g = f
all-cond false f g = g

pub all-each : (n : ℕ) (f : ℕ → List Diagnostic) → ((i : ℕ) → i < n → AllFitting (f i)) → AllFitting (each n f)
all-each n f h = record { each = λ d m. (let p = each-mem n f d m in (h p.0 p.1).each d p.2) }
