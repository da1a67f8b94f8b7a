-- The fields of an image: lists of them that pass a test or don't, those with a tag, and a walk over all of them as a loop makes it, with what is left at an offset
-- and one field fewer at each step.
use Prim.Native.Nat.{ℕ, zero, suc, ◌+◌, ◌≤◌, ◌<◌}
use native.Mathlib.Omega.{arith}
use mathlib.Core.Path.{◌≡◌, refl, sym, ap, ◌∙◌}
use mathlib.Core.Bool.{Bool, true, false, cond}
use mathlib.Core.List.Memᴰ
use mathlib.Core.List.{List, [], ◌∷◌, Memᴰ}
use Rattle.std.specs.Prelude.{Some, None}
use Rattle.base.proofs.Options.{some-ne-none}
use mathlib.Core.Logic.{◌⊎◌, inl, inr}
use lib.ListN.{length, get_or}
use lib.Dec.{leb, eqb}
use borrow.Author.Tests.{leb-true, eqb-true, eq-eqb}
use Rattle.base.specs.Lists.{keep}
use Rattle.numbers.specs.Bytes.{byte}
use Rattle.oce_model.specs.Image.{field_at, field_end, fields, fields_from, first, of_tag, ord_of, stop, stop_from}
use Rattle.oce_model.specs.declared.Field.{Field}
use Rattle.base.proofs.Members.{get_or-mem}

-- ---- fields that pass a test, or don't

-- no field of a list passes a test
pub data NonePass (p : Field → Bool) : List Field → Type 0 where
  end : NonePass p []
  and : {f : Field} {l : List Field} → p f ≡ false → NonePass p l → NonePass p (f ∷ l)

pub none_of : (p : Field → Bool) (l : List Field) → first p l ≡ None → NonePass p l
unfolding first
none_of p [] h = end
none_of p (f ∷ l) h = arm (p f) refl h (none_of p l)
  where
    arm : (b : Bool) → p f ≡ b → cond b (Some f.at) (first p l) ≡ None → (first p l ≡ None → NonePass p l) → NonePass p (f ∷ l)
    arm true e h ih = absurd (some-ne-none f.at h)
    arm false e h ih = and e (ih h)

pub none-mem : (p : Field → Bool) (l : List Field) → NonePass p l → (f : Field) → Memᴰ f l → p f ≡ false
none-mem p l (end) f m = absurd (Memᴰ.not-nil m)
none-mem p l (and {f = g} {l = r} e n) f m = arm (Memᴰ.cases_cons m) (none-mem p r n f)
  where
    arm : (f ≡ g) ⊎ Memᴰ f r → (Memᴰ f r → p f ≡ false) → p f ≡ false
    arm (inl q) ih = ap p q ∙ e
    arm (inr k) ih = ih k

pub first-none : (p : Field → Bool) (l : List Field) → ((f : Field) → Memᴰ f l → p f ≡ false) → first p l ≡ None
unfolding first
first-none p [] h = refl
first-none p (f ∷ l) h = rw (h f (Memᴰ.head refl)) (first-none p l (λ g m. h g (Memᴰ.tail m)))

-- ---- the fields with a tag

pub tag-mem : (t : ℕ) (l : List Field) (f : Field) → Memᴰ f (of_tag t l) → Memᴰ f l × (f.tag ≡ t)
unfolding of_tag keep
tag-mem t [] f m = absurd (Memᴰ.not-nil m)
tag-mem t (g ∷ l) f m = arm (eqb g.tag t) refl m (tag-mem t l f)
  where
    down : Memᴰ f l × (f.tag ≡ t) → Memᴰ f (g ∷ l) × (f.tag ≡ t)
    down p = (Memᴰ.tail p.0, p.1)

    here : eqb g.tag t ≡ true → (f ≡ g) ⊎ Memᴰ f (of_tag t l) → (Memᴰ f (of_tag t l) → Memᴰ f l × (f.tag ≡ t)) → Memᴰ f (g ∷ l) × (f.tag ≡ t)
    here e (inl q) ih = (Memᴰ.head q, ap (λ (f : Field). f.tag) q ∙ eqb-true _ t e)
    here e (inr k) ih = down (ih k)

    arm : (b : Bool) → eqb g.tag t ≡ b → Memᴰ f (cond b (g ∷ of_tag t l) (of_tag t l)) → (Memᴰ f (of_tag t l) → Memᴰ f l × (f.tag ≡ t)) → Memᴰ f (g ∷ l) × (f.tag ≡ t)
    arm true e m ih = here e (Memᴰ.cases_cons m) ih
    arm false e m ih = down (ih m)

pub mem-tag : (t : ℕ) (l : List Field) (f : Field) → Memᴰ f l → f.tag ≡ t → Memᴰ f (of_tag t l)
unfolding of_tag keep
mem-tag t [] f m e = absurd (Memᴰ.not-nil m)
mem-tag t (g ∷ l) f m e = arm (Memᴰ.cases_cons m) (mem-tag t l f)
  where
    over : (b : Bool) → Memᴰ f (of_tag t l) → Memᴰ f (cond b (g ∷ of_tag t l) (of_tag t l))
    over true k = Memᴰ.tail k
    over false k = k

    arm : (f ≡ g) ⊎ Memᴰ f l → (Memᴰ f l → f.tag ≡ t → Memᴰ f (of_tag t l)) → Memᴰ f (cond (eqb g.tag t) (g ∷ of_tag t l) (of_tag t l))
    arm (inl q) ih = rw (eq-eqb g.tag t (ap (λ (f : Field). f.tag) (sym q) ∙ e)) (Memᴰ.head q)
    arm (inr k) ih = over (eqb g.tag t) (ih k e)

-- the i-th field with a tag
abbrev pub nth : ℕ → List ℕ → ℕ → Field
nth t s i = get_or (of_tag t (fields s)) i (field_at s 0 0 0)

pub nth-mem : (t : ℕ) (s : List ℕ) (i : ℕ) → i < length (of_tag t (fields s)) → Memᴰ (nth t s i) (fields s)
nth-mem t s i l = (tag-mem t (fields s) (nth t s i) (get_or-mem (of_tag t (fields s)) i _ l)).0

pub nth-tag : (t : ℕ) (s : List ℕ) (i : ℕ) → i < length (of_tag t (fields s)) → (nth t s i).tag ≡ t
nth-tag t s i l = (tag-mem t (fields s) (nth t s i) (get_or-mem (of_tag t (fields s)) i _ l)).1

-- ---- a walk

-- rest is what is left at the offset at, after a field with the tag prev; the image's fields end with the image
pub record Walk (s : List ℕ) (at prev : ℕ) (rest : List Field) : Type 0 where
  pub fuel : ℕ
  pub ord : ℕ
  pub enough : length s ≤ at + fuel
  pub ends : stop_from fuel s at ≡ length s
  pub is : rest ≡ fields_from fuel s at prev ord

pub walk_start : (s : List ℕ) → stop s ≡ length s → Walk s 0 0 (fields s)
unfolding stop fields
walk_start s h = record { fuel = length s; ord = 0; enough = omega arith; ends = h; is = refl }

pub record Step (s : List ℕ) (at prev : ℕ) (rest : List Field) : Type 0 where
  pub ord : ℕ
  pub later : List Field
  pub fits : field_end s at ≤ length s
  pub is : rest ≡ field_at s at prev ord ∷ later
  pub walk : Walk s (field_end s at) (byte s at) later

pub field_end-past : (s : List ℕ) (at : ℕ) → at + 3 ≤ field_end s at
unfolding field_end
field_end-past s at = omega arith

pub walk_step : (s : List ℕ) (at prev : ℕ) (rest : List Field) → Walk s at prev rest → at < length s → Step s at prev rest
unfolding stop_from fields_from
walk_step s at prev rest w h = go w.fuel w.enough w.ends w.is
  where
    o : ℕ
    o = ord_of prev w.ord (byte s at)

    arm : (k : ℕ) (b : Bool) → leb (field_end s at) (length s) ≡ b → length s ≤ at + suc k
        → cond b (stop_from k s (field_end s at)) at ≡ length s
        → rest ≡ cond b (field_at s at prev o ∷ fields_from k s (field_end s at) (byte s at) (suc o)) []
        → Step s at prev rest
    arm k true e l n i = record {
      ord = o;
      later = fields_from k s (field_end s at) (byte s at) (suc o);
      fits = leb-true _ _ e;
      is = i;
      walk = record { fuel = k; ord = suc o; enough = omega (arith, field_end-past s at); ends = n; is = refl };
    }
    arm k false e l n i = absurd (omega arith)

    go : (k : ℕ) → length s ≤ at + k → stop_from k s at ≡ length s → rest ≡ fields_from k s at prev w.ord → Step s at prev rest
    go zero l n i = absurd (omega arith)
    go (suc k) l n i = arm k (leb (field_end s at) (length s)) refl l n i

-- ---- the first field that passes a test

pub first-here : (p : Field → Bool) (f : Field) (l : List Field) → p f ≡ true → first p (f ∷ l) ≡ Some f.at
unfolding first
first-here p f l h = rw h

pub first-later : (p : Field → Bool) (f : Field) (l : List Field) → p f ≡ false → first p (f ∷ l) ≡ first p l
unfolding first
first-later p f l h = rw h
