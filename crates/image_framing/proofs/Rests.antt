-- Laws of the fields that are left at an offset: none where no whole field stands there, else that one and those behind it.
use Prim.Native.Nat.{ℕ, zero, suc, ◌+◌, ◌≤◌}
use native.Mathlib.Numerals.{add-one}
use native.Mathlib.Omega.{arith}
use mathlib.Core.Logic.{◌≢◌}
use mathlib.Core.Path.{◌≡◌, refl, sym, ◌∙◌}
use mathlib.Core.Bool.{false}
use mathlib.Core.List.{List, [], ◌∷◌}
use lib.Dec.{leb}
use lib.ListN.{length}
use borrow.Author.Tests.{le-leb, lt-leb}
use Rattle.std.specs.Prelude.{None, Some}
use Rattle.numbers.specs.Bytes.{byte}
use Rattle.oce_model.specs.Format.{leading_bytes}
use Rattle.oce_model.specs.Image.{field_at, field_end, fields, fields_from, ord_of}
use Rattle.oce_model.proofs.Fields.{field_end-past}
use Rattle.image_framing.specs.declared.Leading.{Leading}
use Rattle.oce_model.specs.declared.Field.{Field}
use Rattle.image_framing.specs.Walk.{end_of, field_of, rest_at, whole_at, NoneFirst}
use Rattle.image_framing.proofs.Leads.{whole-is, not-whole}

-- a field that runs past the end
from-none : (k : ℕ) (s : List ℕ) (at prev n : ℕ) → leb (field_end s at) (length s) ≡ false → fields_from k s at prev n ≡ []
unfolding fields_from
from-none zero s at prev n e = refl
from-none (suc k) s at prev n e = rw e refl

-- which number a definition begins with doesn't matter, if it is large enough
from-enough : (k j : ℕ) (s : List ℕ) (at prev n : ℕ) → length s ≤ at + k → length s ≤ at + j → fields_from k s at prev n ≡ fields_from j s at prev n
unfolding fields_from
from-enough zero j s at prev n h g = sym (from-none j s at prev n (lt-leb (field_end s at) (length s) (omega (arith, field_end-past s at))))
from-enough (suc k) zero s at prev n h g = from-none (suc k) s at prev n (lt-leb (field_end s at) (length s) (omega (arith, field_end-past s at)))
from-enough (suc k) (suc j) s at prev n h g =
    let e = field_end-past s at in
    rw (from-enough k j s (field_end s at) (byte s at) (suc (ord_of prev n (byte s at))) (omega arith) (omega arith)) refl

-- a whole field
from-next : (k : ℕ) (s : List ℕ) (at prev n : ℕ) → field_end s at ≤ length s → length s ≤ at + k
    → fields_from k s at prev n ≡ field_at s at prev (ord_of prev n (byte s at)) ∷ fields_from (length s) s (field_end s at) (byte s at) (suc (ord_of prev n (byte s at)))
unfolding fields_from
from-next zero s at prev n h g = absurd (omega (arith, field_end-past s at))
from-next (suc k) s at prev n h g =
    let e = field_end-past s at in
    rw (le-leb (field_end s at) (length s) h, from-enough k (length s) s (field_end s at) (byte s at) (suc (ord_of prev n (byte s at))) (omega arith) (omega arith)) refl

pub rest-all : (s : List ℕ) → rest_at s 0 0 0 ≡ fields s
unfolding rest_at fields
rest-all s = refl

module _ (s : List ℕ) (at prev n : ℕ) where
  pub rest-none : None ≡ whole_at s at → rest_at s at prev n ≡ []
  unfolding rest_at
  rest-none h = from-none (length s) s at prev n (not-whole s at h)

  module _ {l : Leading} (w : Some l ≡ whole_at s at) where
    pub rest-next : {ord end : ℕ} → ord ≡ ord_of prev n l.tag → end ≡ at + leading_bytes + l.len
        → rest_at s at prev n ≡ record { at = at; tag = l.tag; len = l.len; prev = prev; ord = ord } ∷ rest_at s end l.tag (ord + 1)
    unfolding rest_at field_at field_end
    rest-next {ord} {end} o e =
        let h = whole-is s at w in
        rw (o, e, h.1, add-one (ord_of prev n (byte s at))) (from-next (length s) s at prev n h.0 (omega arith))

-- ---- the next field, by its tag

-- the field that was read stands first, with the tag that was read
pub next-given : (s : List ℕ) (at prev n : ℕ) {l : Leading} {f : Field} {rest rest' : List Field} {t u : ℕ} → Some l ≡ whole_at s at → rest_at s at prev n ≡ rest → f ≡ field_of l at prev n → rest' ≡ rest_at s (end_of f) f.tag (f.ord + 1)
    → t ≡ l.tag → t ≡ u → (rest ≡ f ∷ rest') × (f.tag ≡ u)
next-given s at prev n {l} w v e r p q = rw (r, e) (sym v ∙ rest-next s at prev n w refl refl, sym p ∙ q)

-- no field with a tag stands first, where a whole one with another does, or none
pub not-first : {rest later : List Field} {g : Field} {t : ℕ} → rest ≡ g ∷ later → g.tag ≢ t → NoneFirst t rest
not-first e n = rw e n

pub not-none : {rest : List Field} (t : ℕ) → rest ≡ [] → NoneFirst t rest
not-none t e = rw e tt
