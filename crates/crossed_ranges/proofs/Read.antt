-- The range of attributes, read by value, is the one of the definition.
use Prim.Native.Nat.{ℕ}
use mathlib.Core.Path.{◌≡◌, refl, ◌∙◌}
use mathlib.Core.Logic.{◌≢◌}
use mathlib.Core.Bool.{Bool, true, false, cond, ◌&&◌}
use mathlib.Core.List.{List}
use lib.IntN.{ℤ}
use mir.Syntax.{w64}
use mir.Val.{SFits}
use mir.Facts.{to_z-of_z}
use borrow.Author.Tests.{eq-eqb, ne_eqb}
use Rattle.std.specs.Prelude.{Option, Some, None}
use Rattle.std.specs.Option.{option_map, unwrap_or}
use Rattle.std.proofs.Common.{to_z, of_z}
use Rattle.numbers.specs.Bytes.{bit, signed64, real64}
use Rattle.oce_model.specs.Format.{real_kind, integer_kind, min_bit, max_bit}
use Rattle.oce_model.specs.Attributes.{num, declared_at, marked, real_attrs, int_attrs}
use Rattle.oce_model.specs.Model.{Defaults, model_of}
use Rattle.oce_model.specs.declared.Attrs.{Attrs}
use Rattle.oce_model.specs.declared.RealAttrs.{RealAttrs}
use Rattle.oce_model.specs.declared.IntAttrs.{IntAttrs}
use Rattle.image_accept.specs.Layout.{Laid, layout_of}
use Rattle.image_accept.specs.declared.Layout.{Layout}
use Rattle.crossed_bounds.specs.Ranges.{finite_end, real_end, real_range, integer_range, or_default, range_of}
use Rattle.crossed_bounds.specs.declared.Bounds.{Bounds}
use Rattle.crossed_bounds.specs.declared.Bounds.TheVariants.{Real}
use Rattle.crossed_ranges.specs.Read.{end_read, end_fine, real_read, integer_read}

real_same : (a : Attrs) → real_read (real_attrs a) ≡ real_range (declared_at a min_bit) (declared_at a max_bit)
unfolding real_read real_attrs declared_at real_range finite_end real_end
real_same a = arm (bit a.marks min_bit) (bit a.marks max_bit)
  where
    p : ℕ
    p = num a min_bit

    q : ℕ
    q = num a max_bit

    arm : (l h : Bool)
        → cond (end_fine l (real64 p) && end_fine h (real64 q)) (Some (Real (end_read l (real64 p)) (end_read h (real64 q)))) None ≡ real_range (marked l p) (marked h q)
    arm true true = refl
    arm true false = refl
    arm false true = refl
    arm false false = refl

integer-same : (d : Defaults) (a : Attrs) → integer_read (int_attrs a) d.min d.max ≡ integer_range d (declared_at a min_bit) (declared_at a max_bit)
unfolding integer_read int_attrs declared_at integer_range
integer-same d a = rw (arm (bit a.marks min_bit) (num a min_bit) d.min, arm (bit a.marks max_bit) (num a max_bit) d.max)
  where
    arm : (b : Bool) (v : ℕ) (d : ℤ) → unwrap_or (option_map signed64 (marked b v)) d ≡ or_default (marked b v) d
    arm true v d = refl
    arm false v d = refl

pub range-real : (d : Defaults) (a : Attrs) {x : RealAttrs} {r : Option Bounds} → a.kind ≡ real_kind → r ≡ real_read x → x ≡ real_attrs a → r ≡ range_of d a
unfolding range_of
range-real d a e f g = rw (eq-eqb a.kind real_kind e) (f ∙ rw g (real_same a))

module _ {s : List ℕ} {l : Layout} (a : Attrs) {x : IntAttrs} {r : Option Bounds} where
  pub range-integer : Laid s l → a.kind ≢ real_kind → a.kind ≡ integer_kind → x ≡ int_attrs a
      → r ≡ integer_read x (to_z w64 (of_z w64 l.min)) (to_z w64 (of_z w64 l.max)) → SFits w64 l.min → SFits w64 l.max → r ≡ range_of (model_of s).defaults a
  unfolding range_of layout_of
  range-integer h n e g f p q =
      rw (ne_eqb a.kind real_kind n, eq-eqb a.kind integer_kind e)
      ((rw (to_z-of_z p, to_z-of_z q, g) at f) ∙ rw h.layout (integer-same (model_of s).defaults a))
