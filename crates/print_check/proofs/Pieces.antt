-- Laws of lines that are written piece by piece.
use Prim.Native.Nat.{ℕ, ◌+◌, ◌-◌, ◌≤◌, ◌<◌}
use native.Mathlib.Omega.{arith}
use mathlib.Core.Path.{◌≡◌, sym, ap, ◌∙◌, subst}
use mathlib.Core.List.{List, [], ◌++◌, append-nil, append_assoc}
use lib.ListN.{length}
use Rattle.std.specs.Prelude.{Option, None, Some, Result, Ok, Err, OnOk}
use Rattle.std.specs.Io.KnownBytes.{Appends}
use Rattle.std.proofs.KnownBytes.{Appends-nil, Appends-trans}
use Rattle.oce_model.specs.Image.{fields}
use Rattle.printed.specs.Printed.{lines_from}
use Rattle.printed.specs.Pieces.{Pieced}
use Rattle.printed.proofs.Whole.{piece-next}
use Rattle.field_lines.specs.Lines.{field_lines, lines_left}
use Rattle.field_lines.specs.Lines as listed
use Rattle.field_lines.proofs.Laws.{lines-all}
use Rattle.print_check.proofs.Laws.{no_lines}

-- ---- the lines of a report's diagnostics

pub lines_start : (s report : List ℕ) (old : Option (List ℕ)) → Appends old old (lines_from s report 0 0)
lines_start s report old = rw (no_lines s report) (Appends-nil old)

pub lines_turn : {s report : List ℕ} {from next count room : ℕ} {b b' : List ℕ} (old mid new : Option (List ℕ)) → Appends old mid (lines_from s report 0 from) → Pieced s report from count room b b' next → b ≡ [] → Appends mid new b'
    → Appends old new (lines_from s report 0 next)
lines_turn {s} {report} {from} {next} {b' = b'} old mid new p v e q =
    let same : b' ≡ lines_from s report from (next - from) = rw e at v.bytes in
    subst (Appends old new) (piece-next s report from next v.forward) (Appends-trans old mid new _ _ p (rw same at q))

-- ---- the lines of an image's fields

-- how many fields are left at most, and one more where any may be
abbrev pub left : List ℕ → Option ℕ → ℕ
left s None = 0
left s (Some at) = length s - at + 1

-- what a writer holds has grown by the lines of the fields, but for those that are left
pub record Listing (s : List ℕ) (old new : Option (List ℕ)) (next : Option ℕ) : Type 0 where
  pub lines : List ℕ
  pub appends : Appends old new lines
  pub all : field_lines (fields s) ≡ lines ++ lines_left s next

pub listing_start : (s : List ℕ) (old : Option (List ℕ)) → Listing s old old (Some 0)
listing_start s old = record { lines = []; appends = Appends-nil old; all = sym (lines-all s) }

pub listing_turn : {s : List ℕ} {at room : ℕ} {b b' : List ℕ} {next : Option ℕ} (old mid new : Option (List ℕ)) → Listing s old mid (Some at) → listed.Pieced s at room b b' next → b ≡ [] → Appends mid new b' → Listing s old new next
listing_turn {s} {next = next} old mid new p v e q = record {
  lines = p.lines ++ v.lines;
  appends = Appends-trans old mid new _ _ p.appends (rw (rw e at v.bytes) at q);
  all = p.all ∙ ap (λ (l : List ℕ). p.lines ++ l) v.all ∙ sym (append_assoc p.lines v.lines (lines_left s next));
}

pub listing_end : {s : List ℕ} (old new : Option (List ℕ)) → Listing s old new None → Appends old new (field_lines (fields s))
listing_end old new p = subst (Appends old new) (sym (p.all ∙ append-nil p.lines)) p.appends

-- fewer are left after a piece
pub listing_less : {s : List ℕ} {at room : ℕ} {b b' : List ℕ} (next : Option ℕ) → listed.Pieced s at room b b' next → length b + listed.longest_field_line ≤ room → left s next < left s (Some at)
listing_less None v h = omega arith
listing_less (Some n) v h = omega (arith, v.moves h, v.within)

-- ---- one write behind another

pub written_then : {T E : Type 0} (r : Result T E) (a b c : Option (List ℕ)) (xs ys : List ℕ) {zs : List ℕ} → Appends a b xs → OnOk r (Appends b c ys) → zs ≡ xs ++ ys → OnOk r (Appends a c zs)
written_then (Ok x) a b c xs ys p q e = rw e (Appends-trans a b c _ _ p q)
written_then (Err x) a b c xs ys p q e = tt
