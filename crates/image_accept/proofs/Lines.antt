-- Lists of fields that grow by one: what is found of them, and how each field stands to the one before.
use Prim.Native.Nat.{ℕ, zero, suc, ◌<◌, ◌≤◌}
use native.Mathlib.Omega.{arith}
use mathlib.Core.Logic.{◌≢◌, ◌⊎◌, inl, inr}
use mathlib.Core.Path.{◌≡◌, refl, ap, ◌∙◌}
use mathlib.Core.Bool.{Bool, true, false, cond, ◌||◌}
use mathlib.Core.List.Memᴰ
use mathlib.Core.List.{List, [], ◌∷◌, ◌++◌, append-nil, Memᴰ}
use lib.Dec.{eqb, leb, ltb}
use lib.ListN.{length}
use borrow.Author.Tests.{eq-eqb, ne_eqb, ltb-false}
use Rattle.std.specs.Prelude.{Some, None}
use Rattle.std.specs.Option.{option_or}
use Rattle.base.specs.Lists.{keep}
use Rattle.base.proofs.Lists.{keep_append, or_parts}
use Rattle.numbers.specs.Bytes.{byte}
use Rattle.oce_model.specs.Format.{highest_tag}
use Rattle.oce_model.specs.Image.{field_at, field_end, fields, fields_from, first, of_tag, ord_of}
use Rattle.oce_model.specs.Refusals.{bad_tag, tag_is_bad}
use Rattle.oce_model.specs.declared.Field.{Field}
use Rattle.image_accept.specs.Surveyed.{Lined}

-- ---- one more field

pub mem-left : (l r : List Field) (g : Field) → Memᴰ g l → Memᴰ g (l ++ r)
mem-left [] r g m = absurd (Memᴰ.not-nil m)
mem-left (x ∷ l) r g m = arm (Memᴰ.cases_cons m) (mem-left l r g)
  where
    arm : (g ≡ x) ⊎ Memᴰ g l → (Memᴰ g l → Memᴰ g (l ++ r)) → Memᴰ g (x ∷ (l ++ r))
    arm (inl q) ih = Memᴰ.head q
    arm (inr k) ih = Memᴰ.tail (ih k)

pub mem-right : (l r : List Field) (g : Field) → Memᴰ g r → Memᴰ g (l ++ r)
mem-right [] r g m = m
mem-right (x ∷ l) r g m = Memᴰ.tail (mem-right l r g m)

pub mem-snoc : (l : List Field) (f g : Field) → Memᴰ g (l ++ (f ∷ [])) → Memᴰ g l ⊎ (g ≡ f)
mem-snoc [] f g m = arm (Memᴰ.cases_cons m)
  where
    arm : (g ≡ f) ⊎ Memᴰ g [] → Memᴰ g [] ⊎ (g ≡ f)
    arm (inl q) = inr q
    arm (inr k) = absurd (Memᴰ.not-nil k)
mem-snoc (x ∷ l) f g m = arm (Memᴰ.cases_cons m) (mem-snoc l f g)
  where
    arm : (g ≡ x) ⊎ Memᴰ g (l ++ (f ∷ [])) → (Memᴰ g (l ++ (f ∷ [])) → Memᴰ g l ⊎ (g ≡ f)) → Memᴰ g (x ∷ l) ⊎ (g ≡ f)
    arm (inl q) ih = inl (Memᴰ.head q)
    arm (inr k) ih = side (ih k)
      where
        side : Memᴰ g l ⊎ (g ≡ f) → Memᴰ g (x ∷ l) ⊎ (g ≡ f)
        side (inl k) = inl (Memᴰ.tail k)
        side (inr q) = inr q

-- ---- the fields with a tag

pub tag-here : (t : ℕ) (f : Field) (l : List Field) → f.tag ≡ t → of_tag t (f ∷ l) ≡ f ∷ of_tag t l
unfolding of_tag keep
tag-here t f l e = rw (eq-eqb f.tag t e) refl

pub tag-not : (t : ℕ) (f : Field) (l : List Field) → f.tag ≢ t → of_tag t (f ∷ l) ≡ of_tag t l
unfolding of_tag keep
tag-not t f l e = rw (ne_eqb f.tag t e) refl

pub tag-none : (t : ℕ) → of_tag t [] ≡ []
unfolding of_tag keep
tag-none t = refl

pub tag-append : (t : ℕ) (l r : List Field) → of_tag t (l ++ r) ≡ of_tag t l ++ of_tag t r
unfolding of_tag
tag-append t l r = keep_append (λ f. eqb f.tag t) l r

pub more-here : (t : ℕ) (l : List Field) (f : Field) → f.tag ≡ t → of_tag t (l ++ (f ∷ [])) ≡ of_tag t l ++ (f ∷ [])
more-here t l f e = tag-append t l (f ∷ []) ∙ ap (λ r. of_tag t l ++ r) (tag-here t f [] e ∙ ap (λ r. f ∷ r) (tag-none t))

pub more-not : (t : ℕ) (l : List Field) (f : Field) → f.tag ≢ t → of_tag t (l ++ (f ∷ [])) ≡ of_tag t l
more-not t l f e = tag-append t l (f ∷ []) ∙ ap (λ r. of_tag t l ++ r) (tag-not t f [] e ∙ tag-none t) ∙ append-nil (of_tag t l)

-- where all tags are lower there is none
pub lower-none : (t : ℕ) (l : List Field) → ((g : Field) → Memᴰ g l → g.tag < t) → of_tag t l ≡ []
lower-none t [] h = tag-none t
lower-none t (f ∷ l) h =
    let low = h f (Memᴰ.head refl) in
    tag-not t f l (λ q. absurd (omega arith)) ∙ lower-none t l (λ g m. h g (Memᴰ.tail m))

-- ---- the first that passes a test

pub first-snoc : (p : Field → Bool) (l : List Field) (f : Field) → first p (l ++ (f ∷ [])) ≡ option_or (first p l) (cond (p f) (Some f.at) None)
unfolding first
first-snoc p [] f = refl
first-snoc p (x ∷ l) f = rw (first-snoc p l f) (arm (p x))
  where
    arm : (b : Bool) → cond b (Some x.at) (option_or (first p l) (cond (p f) (Some f.at) None)) ≡ option_or (cond b (Some x.at) (first p l)) (cond (p f) (Some f.at) None)
    arm true = refl
    arm false = refl

-- ---- each field and the one before

lined-from : (k : ℕ) (s : List ℕ) (at prev n : ℕ) → Lined prev n (fields_from k s at prev n)
unfolding Lined fields_from field_at
lined-from zero s at prev n = tt
lined-from (suc k) s at prev n = arm (leb (field_end s at) (length s)) (lined-from k s (field_end s at) (byte s at) (suc (ord_of prev n (byte s at))))
  where
    o : ℕ
    o = ord_of prev n (byte s at)

    rest : List Field
    rest = fields_from k s (field_end s at) (byte s at) (suc o)

    arm : (b : Bool) → Lined (byte s at) (suc o) rest → Lined prev n (cond b (field_at s at prev o ∷ rest) [])
    arm true h = (refl, refl, h)
    arm false h = tt

pub lined-all : (s : List ℕ) → Lined 0 0 (fields s)
unfolding fields
lined-all s = lined-from (length s) s 0 0 0

-- a good tag is not below the one before, and is a tag
pub ascends : (f : Field) → bad_tag f ≡ false → f.prev ≤ f.tag
unfolding bad_tag tag_is_bad
ascends f h = ltb-false f.tag f.prev (or_parts (eqb f.tag 0 || ltb highest_tag f.tag) _ (or_parts (eqb f.tag 0 || ltb highest_tag f.tag || ltb f.tag f.prev) _ h).0).1

pub is_tag : (f : Field) → bad_tag f ≡ false → f.tag ≤ highest_tag
unfolding bad_tag tag_is_bad
is_tag f h = ltb-false highest_tag f.tag (or_parts (eqb f.tag 0) _ (or_parts (eqb f.tag 0 || ltb highest_tag f.tag) _ (or_parts (eqb f.tag 0 || ltb highest_tag f.tag || ltb f.tag f.prev) _ h).0).0).1

-- behind a higher tag there is none, where tags are good
pub past : (t prev n : ℕ) (l : List Field) → Lined prev n l → ((g : Field) → Memᴰ g l → bad_tag g ≡ false) → t < prev → of_tag t l ≡ []
unfolding Lined
past t prev n [] v h k = tag-none t
past t prev n (f ∷ l) v h k =
    let a = ascends f (h f (Memᴰ.head refl)) in
    let p = v.0 in
    let q : t < f.tag = omega arith in
    tag-not t f l (λ e. absurd (omega arith)) ∙ past t f.tag (suc f.ord) l v.2 (λ g m. h g (Memᴰ.tail m)) q
