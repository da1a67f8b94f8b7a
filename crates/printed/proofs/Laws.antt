-- Laws of a subject's text, and of the lines of a report so far.
use Prim.Native.Nat.{ℕ, ◌+◌, ◌-◌, ◌≤◌, ◌<◌}
use native.Mathlib.Decide.{dec_lt}
use native.Mathlib.Omega.{arith}
use mathlib.Core.Path.{◌≡◌, refl, sym, ◌∙◌}
use mathlib.Core.Bool.{cond}
use mathlib.Core.List.{List, ◌++◌, append-nil, append_assoc}
use lib.Dec.{eqb}
use lib.ListN.{length}
use Rattle.base.specs.Lists.{each}
use Rattle.base.proofs.Lists.{each_next}
use Rattle.oce_model.specs.Format.{longest_text}
use Rattle.oce_model.specs.Model.{model_of, text}
use Rattle.image_accept.specs.Layout.{Laid}
use Rattle.image_accept.specs.declared.Layout.{Layout}
use Rattle.oce_diag.specs.Encoding.{text_subject_kind}
use Rattle.subject.specs.Subject.{labelled, subject_text}
use Rattle.image_records.proofs.Texts.{text-short}
use Rattle.oce_diag.specs.Decoded.{diagnostic_at}
use Rattle.printed.specs.Printed.{line, lines_from, longest_line}
use Rattle.printed.specs.Pieces.{Pieced}

-- ---- subjects

module _ {s : List ℕ} {l : Layout} (h : Laid s l) where
  -- no text of an accepted image is longer than the longest
  pub text_few : (i : ℕ) → length (text (model_of s) i) ≤ longest_text
  text_few i = text-short h i

  -- a subject's text is one of the image, or a label
  pub subject_is : (kind i : ℕ) → subject_text s kind i ≡ cond (eqb kind text_subject_kind) (text (model_of s) i) (labelled kind i)
  unfolding subject_text
  subject_is kind i = rw h.accepted refl

-- ---- the lines of diagnostics

-- behind b stand the lines of the diagnostics from `from` up to i
pub record Printing (s report : List ℕ) (from : ℕ) (b b' : List ℕ) (i : ℕ) : Type 0 where
  pub forward : from ≤ i
  pub bytes : b' ≡ b ++ lines_from s report from (i - from)

-- none yet
pub printing_start : (s report : List ℕ) (from : ℕ) (b : List ℕ) → Printing s report from b b from
unfolding lines_from each
printing_start s report from b =
    let n : from - from ≡ 0 = omega arith in
    record { forward = omega arith; bytes = rw n (sym (append-nil b)) }

module _ {s report : List ℕ} {from : ℕ} {b b' : List ℕ} {i : ℕ} (v : Printing s report from b b' i) where
  -- one line more
  pub printing_turn : {b'' : List ℕ} → b'' ≡ b' ++ line s (diagnostic_at report i) → Printing s report from b b'' (i + 1)
  unfolding lines_from
  printing_turn {b''} w =
      let l = v.forward in
      let n : i + 1 - from ≡ i - from + 1 = omega arith in
      let m : from + (i - from) ≡ i = omega arith in
      record { forward = omega arith; bytes = w ∙ rw (v.bytes, n, each_next (i - from) (λ j. line s (diagnostic_at report (from + j))), m) (append_assoc b _ _) }

  none_yet : i ≡ from → length b' ≡ length b
  unfolding lines_from each
  none_yet e = let n : i - from ≡ 0 = omega arith in rw (v.bytes, n, append-nil b)

  -- no room for the longest line
  pub printing_full : {count room : ℕ} → i ≤ count → room < length b' + longest_line → Pieced s report from count room b b' i
  printing_full {count} {room} h l = record { forward = v.forward; within = h; bytes = v.bytes; moves = λ _ r. arm (dec_lt from i) r }
    where
      arm : Dec (from < i) → length b + longest_line ≤ room → from < i
      arm (yes p) r = p
      arm (no p) r = let f = v.forward in let e : i ≡ from = omega arith in let n = none_yet e in absurd (omega arith)
