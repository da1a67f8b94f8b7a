-- The slots that rule 6 fills have kinds and marks that are bytes: those of an image do, `put` leaves the kind, and sets a mark below bit 6 that wasn't set.
use Prim.Native.Nat.{ℕ, ◌+◌, ◌<◌}
use native.Mathlib.Omega.{arith}
use mathlib.Core.Path.{◌≡◌, refl}
use mathlib.Core.Bool.{Bool, true, false, cond}
use mathlib.Core.List.{List}
use Rattle.std.specs.Prelude.{Option, Some, None}
use lib.Dec.{eqb}
use Rattle.numbers.specs.Bytes.{byte_range}
use Rattle.numbers.proofs.Bits.{mark-fits}
use Rattle.oce_model.specs.Format.{connector_attrs, connector_tag, boundary_output_attrs, boundary_output_tag}
use Rattle.oce_model.specs.Attributes.{no_attrs, attrs_at, declare_at, declared_at}
use Rattle.oce_model.specs.declared.Attrs.{Attrs}
use Rattle.oce_model.specs.Model.{connector_at, boundary_output_at, connector_count, model_of}
use Rattle.oce_model.proofs.Fields.{nth}
use Rattle.unify.specs.Details.{kind_of, bit_of}
use Rattle.unify.specs.Slots.{slots_of, put, put_at}
use Rattle.unify.specs.Unify.{filled_slots}
use Rattle.unify.specs.declared.Detail.{Detail}
use Rattle.unify.proofs.Details.{bit_of-lt}
use Rattle.unify.proofs.Declared.{unmarked}
use Rattle.moved.proofs.Bytes.{Bytes}
use Rattle.moved.proofs.Invariants.{All, filled_to-keeps}
use Rattle.moved.proofs.Widths.{all_slots}
use Rattle.filling.specs.Small.{Small}

record Lead (a : Attrs) : Type 0 where
  kind : a.kind < byte_range
  marks : a.marks < byte_range

put-lead : (d : Detail) (v : ℕ) (a : Attrs) → v ≡ v → Lead a → Lead (put d v a)
unfolding put declare_at
put-lead d v a ok c = arm (eqb a.kind (kind_of d)) (declared_at a (bit_of d)) refl
  where
    arm : (b : Bool) (o : Option ℕ) → declared_at a (bit_of d) ≡ o → Lead (cond b (put_at (bit_of d) v a o) a)
    arm false o e = c
    arm true (Some u) e = c
    arm true None e = record { kind = c.kind; marks = mark-fits 8 a.marks (bit_of d) c.marks (omega (arith, bit_of-lt d)) (unmarked a (bit_of d) e) }

at-lead : (s : List ℕ) (at : ℕ) → Bytes s → Lead (attrs_at s at)
unfolding attrs_at
at-lead s at h = record { kind = h at; marks = h (at + 1) }

no_lead : Lead no_attrs
unfolding no_attrs
no_lead = record { kind = omega arith; marks = omega arith }

image-lead : (s : List ℕ) → Bytes s → All Lead (slots_of (model_of s))
unfolding connector_at boundary_output_at
image-lead s h = all_slots Lead s no_lead (λ i l. at-lead s ((nth connector_tag s i).at + connector_attrs) h) (λ i l. at-lead s ((nth boundary_output_tag s i).at + boundary_output_attrs) h)

pub filled-small : (s : List ℕ) → Bytes s → Small (filled_slots (model_of s))
unfolding filled_slots
filled-small s h = record { kinds = λ j. (all.at j).kind; marks = λ j. (all.at j).marks }
  where
    all : All Lead (filled_slots (model_of s))
    all = filled_to-keeps Lead (λ p v. v ≡ v) put-lead (λ d v a c e. refl) (model_of s) (connector_count (model_of s)) (image-lead s h)
