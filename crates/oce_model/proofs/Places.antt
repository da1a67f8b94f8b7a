-- The fields of an image stand one behind the other, up to its end: no two of them overlap, and those with a tag stand in their order.
use Prim.Native.Nat.{ℕ, zero, suc, ◌+◌, ◌≤◌, ◌<◌}
use native.Mathlib.Omega.{arith}
use mathlib.Core.Logic.{◌⊎◌, inl, inr}
use mathlib.Core.Path.{◌≡◌, refl, sym, ◌∙◌}
use mathlib.Core.Bool.{Bool, true, false, cond}
use mathlib.Core.List.Memᴰ
use mathlib.Core.List.{List, [], ◌∷◌, Memᴰ}
use lib.ListN.{length, get_or}
use lib.Dec.{leb, eqb}
use borrow.Author.Tests.{leb-true}
use Rattle.base.specs.Lists.{keep}
use Rattle.numbers.specs.Bytes.{byte}
use Rattle.oce_model.specs.Image.{field_at, field_end, fields, fields_from, of_tag, ord_of}
use Rattle.oce_model.specs.declared.Field.{Field}
use Rattle.base.proofs.Members.{get_or-mem}
use Rattle.oce_model.proofs.Fields.{nth}

-- where a field ends
abbrev pub end_at : Field → ℕ
end_at f = f.at + 3 + f.len

-- the fields stand one behind the other from an offset on, up to e
pub data Chain (e : ℕ) : ℕ → List Field → Type 0 where
  end : {at : ℕ} → Chain e at []
  and : {at : ℕ} {f : Field} {l : List Field} → at ≤ f.at → end_at f ≤ e → Chain e (end_at f) l → Chain e at (f ∷ l)

chain-from : (k : ℕ) (s : List ℕ) (at prev n : ℕ) → Chain (length s) at (fields_from k s at prev n)
unfolding fields_from field_at field_end
chain-from zero s at prev n = end
chain-from (suc k) s at prev n = arm (leb (field_end s at) (length s)) refl (chain-from k s (field_end s at) (byte s at) (suc (ord_of prev n (byte s at))))
  where
    o : ℕ
    o = ord_of prev n (byte s at)

    rest : List Field
    rest = fields_from k s (field_end s at) (byte s at) (suc o)

    arm : (b : Bool) → leb (field_end s at) (length s) ≡ b → Chain (length s) (field_end s at) rest → Chain (length s) at (cond b (field_at s at prev o ∷ rest) [])
    arm true e ih = and {at = at} {f = field_at s at prev o} (omega arith) (leb-true _ _ e) ih
    arm false e ih = end

pub chain : (s : List ℕ) → Chain (length s) 0 (fields s)
unfolding fields
chain s = chain-from (length s) s 0 0 0

weaken : {e at : ℕ} {l : List Field} (b : ℕ) → b ≤ at → Chain e at l → Chain e b l
weaken b h (end) = end
weaken b h (and {f = f} g k c) = and {at = b} {f = f} (omega arith) k c

-- each member lies behind the start and before the end
mem-start : (e at : ℕ) (l : List Field) → Chain e at l → (f : Field) → Memᴰ f l → at ≤ f.at
mem-start e at l (end) f m = absurd (Memᴰ.not-nil m)
mem-start e at l (and {f = g} {l = r} h k c) f m = arm (Memᴰ.cases_cons m) (mem-start e (end_at g) r c f)
  where
    arm : (f ≡ g) ⊎ Memᴰ f r → (Memᴰ f r → end_at g ≤ f.at) → at ≤ f.at
    arm (inl q) ih = rw q h
    arm (inr q) ih = let z = ih q in omega arith

mem-end : (e at : ℕ) (l : List Field) → Chain e at l → (f : Field) → Memᴰ f l → end_at f ≤ e
mem-end e at l (end) f m = absurd (Memᴰ.not-nil m)
mem-end e at l (and {f = g} {l = r} h k c) f m = arm (Memᴰ.cases_cons m) (mem-end e (end_at g) r c f)
  where
    arm : (f ≡ g) ⊎ Memᴰ f r → (Memᴰ f r → end_at f ≤ e) → end_at f ≤ e
    arm (inl q) ih = rw q k
    arm (inr q) ih = ih q

-- two fields are one, or the first ends before the second, or the second before the first
pub data Placed (f g : Field) : Type 0 where
  one : f ≡ g → Placed f g
  left : end_at f ≤ g.at → Placed f g
  right : end_at g ≤ f.at → Placed f g

placed : (e at : ℕ) (l : List Field) → Chain e at l → (f g : Field) → Memᴰ f l → Memᴰ g l → Placed f g
placed e at l (end) f g p q = absurd (Memᴰ.not-nil p)
placed e at l (and {f = h} {l = r} a b c) f g p q = arm (Memᴰ.cases_cons p) (Memᴰ.cases_cons q) (placed e (end_at h) r c f g)
  where
    arm : (f ≡ h) ⊎ Memᴰ f r → (g ≡ h) ⊎ Memᴰ g r → (Memᴰ f r → Memᴰ g r → Placed f g) → Placed f g
    arm (inl x) (inl y) ih = one (x ∙ sym y)
    arm (inl x) (inr y) ih = left (rw x (mem-start e (end_at h) r c g y))
    arm (inr x) (inl y) ih = right (rw y (mem-start e (end_at h) r c f x))
    arm (inr x) (inr y) ih = ih x y

pub field-end : (s : List ℕ) (f : Field) → Memᴰ f (fields s) → end_at f ≤ length s
field-end s f m = mem-end (length s) 0 (fields s) (chain s) f m

pub fields-placed : (s : List ℕ) (f g : Field) → Memᴰ f (fields s) → Memᴰ g (fields s) → Placed f g
fields-placed s f g p q = placed (length s) 0 (fields s) (chain s) f g p q

-- the fields with a tag, in their order
chain-tag : (t e at : ℕ) (l : List Field) → Chain e at l → Chain e at (of_tag t l)
unfolding of_tag keep
chain-tag t e at l (end) = end
chain-tag t e at l (and {f = f} {l = r} a b c) = arm (eqb f.tag t) (chain-tag t e (end_at f) r c)
  where
    arm : (b : Bool) → Chain e (end_at f) (of_tag t r) → Chain e at (cond b (f ∷ of_tag t r) (of_tag t r))
    arm true ih = and {f = f} a b ih
    arm false ih = weaken at (omega arith) ih

ordered : (e at : ℕ) (l : List Field) → Chain e at l → (d : Field) (i j : ℕ) → i < j → j < length l → end_at (get_or l i d) ≤ (get_or l j d).at
ordered e at l (end) d i j h k = absurd (omega arith)
ordered e at l (and {f = f} {l = r} a b c) d zero zero h k = absurd (omega arith)
ordered e at l (and {f = f} {l = r} a b c) d (suc i) zero h k = absurd (omega arith)
ordered e at l (and {f = f} {l = r} a b c) d zero (suc j) h k = mem-start e (end_at f) r c (get_or r j d) (get_or-mem r j d (omega arith))
ordered e at l (and {f = f} {l = r} a b c) d (suc i) (suc j) h k = ordered e (end_at f) r c d i j (omega arith) (omega arith)

pub nth-ordered : (t : ℕ) (s : List ℕ) (i j : ℕ) → i < j → j < length (of_tag t (fields s)) → end_at (nth t s i) ≤ (nth t s j).at
nth-ordered t s i j h k = ordered (length s) 0 (of_tag t (fields s)) (chain-tag t (length s) 0 (fields s) (chain s)) (field_at s 0 0 0) i j h k
