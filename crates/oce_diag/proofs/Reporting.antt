-- Laws of a report as code holds it: what several steps put, and a loop that puts some in each turn.
use Prim.Native.Nat.{ℕ, suc, ◌+◌, ◌*◌, ◌≤◌, ◌<◌}
use native.Mathlib.Nat.{mul-suc, mul-le-mul_left}
use native.Mathlib.Numerals.{add-one}
use native.Mathlib.Omega.{arith}
use mathlib.Core.Path.{◌≡◌, refl, ap, ◌∙◌}
use mathlib.Core.Bool.{Bool, true, false}
use mathlib.Core.List.{List, [], ◌∷◌, ◌++◌}
use Rattle.base.specs.Lists.{each, only}
use Rattle.base.proofs.Lists.{each_next}
use Rattle.oce_diag.specs.Reporting.{Room, Puts, Turns}
use Rattle.oce_diag.specs.declared.Diagnostic.{Diagnostic}
use Rattle.oce_diag.specs.declared.report.Report.{Report}
use Rattle.oce_diag.proofs.Putting.{put-none, put_then, put_only, put-skip}

-- nothing is put
pub puts-none : {n : ℕ} {r : Report} → Puts n [] r r
puts-none = record { put = put-none; few = omega arith; same = refl }

-- one run after another
pub puts-then : {m n : ℕ} {xs ys : List Diagnostic} {a b c : Report} → Puts m xs a b → Puts n ys b c → Puts (m + n) (xs ++ ys) a c
puts-then p q = record { put = put_then p.put q.put; few = omega (arith, p.few, q.few); same = q.same ∙ p.same }

-- the same, where the whole is at most t
pub puts-within : {m n t : ℕ} {xs ys : List Diagnostic} {a b c : Report} → Puts m xs a b → Puts n ys b c → m + n ≤ t → Puts t (xs ++ ys) a c
puts-within p q h = record { put = put_then p.put q.put; few = omega (arith, p.few, q.few); same = q.same ∙ p.same }

-- a larger bound, and the same list by another name
pub puts-more : {m n : ℕ} {xs ys : List Diagnostic} {a b : Report} → Puts m xs a b → m ≤ n → xs ≡ ys → Puts n ys a b
puts-more p h e = record { put = rw (← e) p.put; few = omega (arith, p.few); same = p.same }

-- a diagnostic by a test
pub puts-only : {n : ℕ} {t : Bool} {x d : Diagnostic} {a b : Report} → Puts n (x ∷ []) a b → x ≡ d → t ≡ true → Puts n (only t d) a b
puts-only p e f = record { put = put_only p.put e f; few = p.few; same = p.same }

pub puts-skip : {n : ℕ} {t : Bool} (d : Diagnostic) {r : Report} → t ≡ false → Puts n (only t d) r r
puts-skip d e = record { put = put-skip d e; few = omega arith; same = refl }

-- what may still be counted
pub room-behind : {m : ℕ} {xs : List Diagnostic} {a b : Report} (n t : ℕ) → Puts m xs a b → Room t a → m + n ≤ t → Room n b
room-behind n t p r h = omega (arith, p.few)

-- ---- a loop that puts f i in turn i, k of them at most

module _ {f : ℕ → List Diagnostic} {k : ℕ} {r₀ : Report} where
  pub turns-start : Turns f k r₀ r₀ 0
  unfolding each
  turns-start = record { puts = puts-none }

  pub turns-next : {r r' : Report} {i : ℕ} → Turns f k r₀ r i → Puts k (f i) r r' → Turns f k r₀ r' (i + 1)
  turns-next {i = i} v q = record {
    puts = record {
      put = rw (each_next i f) (put_then v.puts.put q.put);
      few = omega (arith, v.puts.few, q.few, mul-suc k i, ap (λ (x : ℕ). k * x) (add-one i));
      same = q.same ∙ v.puts.same;
    };
  }

  module _ {r : Report} {i : ℕ} (v : Turns f k r₀ r i) where
    -- all m turns, of which at most n can come; t are all that these can put
    pub turns-end : {m : ℕ} (n t : ℕ) → i ≡ m → m ≤ n → k * n ≤ t → Puts t (each m f) r₀ r
    turns-end {m} n t e h l = record {
      put = rw (← e) v.puts.put;
      few = omega (arith, v.puts.few, e, mul-le-mul_left {m = i} {n = n} k (omega arith));
      same = v.puts.same;
    }

    -- each turn may count its own
    pub turns-room : (m n t : ℕ) → Room t r₀ → i < m → m ≤ n → k * n ≤ t → Room k r
    turns-room m n t h l q s = omega (arith, v.puts.few, mul-suc k i, mul-le-mul_left {m = suc i} {n = n} k (omega arith))
