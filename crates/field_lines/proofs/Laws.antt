-- Laws of the lines that list an image's fields, one field more at a time.
use Prim.Native.Nat.{ℕ, zero, suc, ◌+◌, ◌≤◌}
use native.Mathlib.Omega.{arith}
use mathlib.Core.Path.{◌≡◌, refl, sym, ap, ◌∙◌}
use mathlib.Core.Bool.{Bool, true, false, cond}
use mathlib.Core.List.{List, [], ◌∷◌, ◌++◌, append-nil, append_assoc}
use lib.ListN.{length}
use borrow.Author.Tests.{lt-leb}
use Rattle.numbers.specs.Bytes.{byte, le16}
use Rattle.oce_model.specs.Format.{leading_bytes}
use Rattle.oce_model.specs.Image.{field_at, field_end, fields_from, fields, ord_of}
use Rattle.std.specs.Prelude.{Option, None}
use Rattle.reader.specs.Reading.{whole, found_at, after_at}
use Rattle.reader.specs.declared.Found.{Found}
use Rattle.reader.proofs.Laws.{Stands, stands_none}
use Rattle.field_lines.specs.Lines.{field_line, field_lines, lines_from, Pieced}

-- ---- the lines from an offset on

behind : (s : List ℕ) (at : ℕ) → at + leading_bytes ≤ field_end s at
unfolding field_end
behind s at = omega arith

-- past the end no whole field stands
past : (s : List ℕ) (at : ℕ) → length s ≤ at → whole s at ≡ false
past s at h = lt-leb (field_end s at) (length s) (omega (arith, behind s at))

more : (k : ℕ) (s : List ℕ) (at p n : ℕ) → whole s at ≡ true
    → field_lines (fields_from (suc k) s at p n) ≡ field_line at (byte s at) (le16 s (at + 1)) ++ field_lines (fields_from k s (field_end s at) (byte s at) (suc (ord_of p n (byte s at))))
unfolding fields_from field_lines field_at
more k s at p n e = ap (λ (b : Bool). field_lines (cond b (field_at s at p (ord_of p n (byte s at)) ∷ fields_from k s (field_end s at) (byte s at) (suc (ord_of p n (byte s at)))) [])) e

none : (k : ℕ) (s : List ℕ) (at p n : ℕ) → whole s at ≡ false → field_lines (fields_from k s at p n) ≡ []
unfolding fields_from field_lines
none zero s at p n e = refl
none (suc k) s at p n e = ap (λ (b : Bool). field_lines (cond b (field_at s at p (ord_of p n (byte s at)) ∷ fields_from k s (field_end s at) (byte s at) (suc (ord_of p n (byte s at)))) [])) e

-- they hang on the offset alone, where the first number isn't used up
same : (k k' : ℕ) (s : List ℕ) (at p n p' n' : ℕ) → length s ≤ at + k → length s ≤ at + k' → field_lines (fields_from k s at p n) ≡ field_lines (fields_from k' s at p' n')
same zero k' s at p n p' n' h h' = let e : whole s at ≡ false = past s at (omega arith) in none zero s at p n e ∙ sym (none k' s at p' n' e)
same (suc k) zero s at p n p' n' h h' = let e : whole s at ≡ false = past s at (omega arith) in none (suc k) s at p n e ∙ sym (none zero s at p' n' e)
same (suc k) (suc k') s at p n p' n' h h' =
    arm (whole s at) refl (same k k' s (field_end s at) (byte s at) (suc (ord_of p n (byte s at))) (byte s at) (suc (ord_of p' n' (byte s at))) (omega (arith, behind s at)) (omega (arith, behind s at)))
  where
    arm : (b : Bool) → whole s at ≡ b → field_lines (fields_from k s (field_end s at) (byte s at) (suc (ord_of p n (byte s at)))) ≡ field_lines (fields_from k' s (field_end s at) (byte s at) (suc (ord_of p' n' (byte s at))))
        → field_lines (fields_from (suc k) s at p n) ≡ field_lines (fields_from (suc k') s at p' n')
    arm true e i = more k s at p n e ∙ ap (λ (xs : List ℕ). field_line at (byte s at) (le16 s (at + 1)) ++ xs) i ∙ sym (more k' s at p' n' e)
    arm false e i = none (suc k) s at p n e ∙ sym (none (suc k') s at p' n' e)

lines_more : (s : List ℕ) (at : ℕ) → whole s at ≡ true → lines_from s at ≡ field_line at (byte s at) (le16 s (at + 1)) ++ lines_from s (field_end s at)
lines_more s at e =
    let few : length s ≤ field_end s at + length s = omega arith in
    same (length s) (suc (length s)) s at 0 0 0 0 (omega arith) (omega arith) ∙ more (length s) s at 0 0 e
    ∙ ap (λ (xs : List ℕ). field_line at (byte s at) (le16 s (at + 1)) ++ xs) (same (length s) (length s) s (field_end s at) (byte s at) (suc (ord_of 0 0 (byte s at))) 0 0 few few)

-- from 0 on they are all
pub lines-all : (s : List ℕ) → lines_from s 0 ≡ field_lines (fields s)
unfolding fields
lines-all s = refl

-- ---- the loop

-- behind b stand the lines of the fields before the offset at, and with those from there on they are all from the offset `from` on
pub record Listing (s : List ℕ) (from : ℕ) (b b' : List ℕ) (at : ℕ) : Type 0 where
  pub lines : List ℕ
  pub bytes : b' ≡ b ++ lines
  pub all : lines_from s from ≡ lines ++ lines_from s at
  pub within : at ≤ length s
  pub forward : from ≤ at
  pub started : at ≡ from → lines ≡ []

pub listing_start : {s : List ℕ} {from : ℕ} {b : List ℕ} → from ≤ length s → Listing s from b b from
listing_start {b = b} h = record { lines = []; bytes = sym (append-nil b); all = refl; within = h; forward = omega arith; started = λ _. refl }

module _ {s : List ℕ} {from : ℕ} {b b' : List ℕ} {at : ℕ} (v : Listing s from b b' at) where
  -- one field more
  pub listing_turn : {f : Found} {b'' : List ℕ} → Stands s at f → b'' ≡ b' ++ field_line f.at f.tag f.len → Listing s from b b'' (after_at s at)
  listing_turn {f} h w =
      let line = field_line f.at f.tag f.len in
      let e : after_at s at ≡ field_end s at = ap (λ (x : Bool). cond x (field_end s at) at) h.whole in
      let m : lines_from s at ≡ line ++ lines_from s (after_at s at) = rw e (lines_more s at h.whole ∙ sym (ap (λ (g : Found). field_line g.at g.tag g.len ++ lines_from s (field_end s at)) h.is)) in
      record {
        lines = v.lines ++ line;
        bytes = w ∙ rw v.bytes (append_assoc b v.lines line);
        all = v.all ∙ ap (λ (xs : List ℕ). v.lines ++ xs) m ∙ sym (append_assoc v.lines line (lines_from s (after_at s at)));
        within = h.within;
        forward = omega (arith, h.further, v.forward);
        started = λ q. absurd (omega (arith, h.further, v.forward));
      }

  -- no field is left
  pub listing_end : (room : ℕ) → ◌≡◌ {A = Option Found} None (found_at s at) → Pieced s from room b b' None
  listing_end room h = record { lines = v.lines; bytes = v.bytes; all = v.all ∙ ap (λ (xs : List ℕ). v.lines ++ xs) (none (length s) s at 0 0 (stands_none s at h)); within = tt; moves = λ _. tt }
