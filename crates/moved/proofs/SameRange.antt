-- From one key for each detail to one range, and to texts that are alike.
use Prim.Native.Nat.{ℕ}
use native.Mathlib.Decide.{ℕ_discrete}
use mathlib.Core.Path.{◌≡◌, refl, sym, ap, ◌∙◌}
use mathlib.Core.Logic.{◌≢◌}
use mathlib.Core.Bool.{true, ◌&&◌}
use mathlib.Core.List.{[], ◌∷◌}
use Rattle.std.specs.Prelude.{Option, Some, None}
use Rattle.base.proofs.Options.{map, none-ne-some, some-ne-none}
use borrow.Author.Tests.{eq-eqb, ne_eqb}
use Rattle.base.specs.Lists.{any}
use Rattle.oce_model.specs.Format.{integer_kind, max_bit, min_bit, quantity_bit, real_kind, unit_bit}
use Rattle.oce_model.specs.Attributes.{declared_at}
use Rattle.oce_model.specs.declared.Attrs.{Attrs}
use Rattle.oce_model.specs.Model.{Model, text}
use Rattle.crossed_bounds.specs.Ranges.{range_of}
use Rattle.crossed_bounds.specs.Values.{Datum, inside}
use Rattle.unify.specs.Details.{bit_of, detail_number, is_text, kind_of, unified_details}
use Rattle.unify.specs.Slots.{key, value}
use Rattle.unify.specs.declared.Detail.{Detail}
use Rattle.unify.specs.declared.Detail.TheVariants.{Unit, Quantity, RealMin, RealMax, IntegerMin, IntegerMax}
use Rattle.unify.proofs.Details.{among}
use Rattle.moved.specs.Moved.{alike, alike_units}
use Rattle.base.proofs.Lists.{same_refl}

-- two attribute sets of one kind that have one key for each detail of that kind
pub record OneKey (m : Model) (a b : Attrs) : Type 0 where
  pub kind : a.kind ≡ b.kind
  pub keys : (d : Detail) → among d unified_details ≡ true → a.kind ≡ kind_of d → map (key m.texts d) (value d a) ≡ map (key m.texts d) (value d b)

value-is : (d : Detail) (a : Attrs) → a.kind ≡ kind_of d → value d a ≡ declared_at a (bit_of d)
unfolding value
value-is d a e = rw (eq-eqb _ _ e)

singles : (x y : Option ℕ) → map (λ v. v ∷ []) x ≡ map (λ v. v ∷ []) y → x ≡ y
singles None None h = refl
singles None (Some v) h = absurd (none-ne-some _ h)
singles (Some u) None h = absurd (some-ne-none _ h)
singles (Some u) (Some v) h = cc

alike-texts : (m : Model) (x y : Option ℕ) → map (text m) x ≡ map (text m) y → alike m x y ≡ true
alike-texts m None None h = refl
alike-texts m None (Some v) h = absurd (none-ne-some _ h)
alike-texts m (Some u) None h = absurd (some-ne-none _ h)
alike-texts m (Some u) (Some v) h = let e : text m u ≡ text m v = cc in rw e (same_refl (text m v))

module _ (m : Model) (a b : Attrs) (o : OneKey m a b) where
  vals : (d : Detail) → among d unified_details ≡ true → a.kind ≡ kind_of d → map (key m.texts d) (declared_at a (bit_of d)) ≡ map (key m.texts d) (declared_at b (bit_of d))
  vals d l e = ap (map (key m.texts d)) (sym (value-is d a e)) ∙ o.keys d l e ∙ ap (map (key m.texts d)) (value-is d b (sym o.kind ∙ e))

  unit : a.kind ≡ real_kind → alike m (declared_at a unit_bit) (declared_at b unit_bit) ≡ true
  unfolding text key bit_of kind_of is_text among any unified_details detail_number
  unit e = alike-texts m (declared_at a unit_bit) (declared_at b unit_bit) (vals Unit refl e)

  quantity : a.kind ≡ real_kind → alike m (declared_at a quantity_bit) (declared_at b quantity_bit) ≡ true
  unfolding text key bit_of kind_of is_text among any unified_details detail_number
  quantity e = alike-texts m (declared_at a quantity_bit) (declared_at b quantity_bit) (vals Quantity refl e)

  real-min : a.kind ≡ real_kind → declared_at a min_bit ≡ declared_at b min_bit
  unfolding key bit_of kind_of is_text among any unified_details detail_number
  real-min e = singles (declared_at a min_bit) (declared_at b min_bit) (vals RealMin refl e)

  real-max : a.kind ≡ real_kind → declared_at a max_bit ≡ declared_at b max_bit
  unfolding key bit_of kind_of is_text among any unified_details detail_number
  real-max e = singles (declared_at a max_bit) (declared_at b max_bit) (vals RealMax refl e)

  integer-min : a.kind ≡ integer_kind → declared_at a min_bit ≡ declared_at b min_bit
  unfolding key bit_of kind_of is_text among any unified_details detail_number
  integer-min e = singles (declared_at a min_bit) (declared_at b min_bit) (vals IntegerMin refl e)

  integer-max : a.kind ≡ integer_kind → declared_at a max_bit ≡ declared_at b max_bit
  unfolding key bit_of kind_of is_text among any unified_details detail_number
  integer-max e = singles (declared_at a max_bit) (declared_at b max_bit) (vals IntegerMax refl e)

  same-bounds : range_of m.defaults a ≡ range_of m.defaults b
  unfolding range_of
  same-bounds = arm (ℕ_discrete b.kind 0) (ℕ_discrete b.kind 1)
    where
      arm : Dec (b.kind ≡ real_kind) → Dec (b.kind ≡ integer_kind) → range_of m.defaults a ≡ range_of m.defaults b
      arm (yes e) f = rw (real-min (o.kind ∙ e), real-max (o.kind ∙ e), o.kind)
      arm (no e) (yes f) = rw (integer-min (o.kind ∙ f), integer-max (o.kind ∙ f), o.kind)
      arm (no e) (no f) = rw (o.kind, ne_eqb _ 0 e, ne_eqb _ 1 f)

  -- so the same values lie inside: all that is asked of the two ranges elsewhere
  pub same-inside : (v : Datum) → inside (range_of m.defaults a) v ≡ inside (range_of m.defaults b) v
  same-inside v = ap (λ r. inside r v) same-bounds

  -- where other kinds have neither unit nor quantity
  pub same_units : (a.kind ≢ real_kind → (declared_at a quantity_bit ≡ None) × (declared_at a unit_bit ≡ None)) → (b.kind ≢ real_kind → (declared_at b quantity_bit ≡ None) × (declared_at b unit_bit ≡ None)) → alike_units m a b ≡ true
  unfolding alike_units
  same_units p q = arm (ℕ_discrete a.kind 0)
    where
      arm : Dec (a.kind ≡ real_kind) → (alike m (declared_at a unit_bit) (declared_at b unit_bit) && alike m (declared_at a quantity_bit) (declared_at b quantity_bit)) ≡ true
      arm (yes e) = rw (unit e, quantity e)
      arm (no e) =
          let f = p e in
          let g = q (λ z. e (o.kind ∙ z)) in
          rw (f.0, f.1, g.0, g.1)
