-- The models are accepted. Of the image that is written byte by byte, what each byte means.
use Prim.Native.Nat.{ℕ}
use mathlib.Core.Path.{◌≡◌, refl}
use mathlib.Core.Bool.{Bool, true, false}
use mathlib.Core.List.{List, [], ◌∷◌, map}
use Rattle.std.specs.Prelude.{Option, Some, None}
use lib.IntN.{pos, negsuc}
use lib.ListN.{replicate, length, drop}
use Rattle.numbers.specs.Bytes.{bit}
use Rattle.oce_model.specs.Format.{dir_in, dir_out, real_kind, integer_kind, no_text, quantity_bit, unit_bit, display_unit_bit, min_bit, max_bit, nominal_bit, unbounded_bit, unbounded_value_bit}
use Rattle.oce_model.specs.Attributes.{Attrs, declared_at, attrs_bytes}
use Rattle.oce_model.specs.Model.{Connector, model_of}
use Rattle.oce_model.specs.Refusals.{refusal}
use Rattle.oce_model.specs.Computed.{computed}
use Rattle.oce_model.specs.Build.{◌is◌, real_with, computed_build}
use Rattle.oce_model.specs.Examples.{models, computed_examples}
use Rattle.oce_model.specs.Raw.{raw_real_all, raw_image, raw_filled, computed_raw}

pub accepted : map refusal models ≡ replicate (length models) None
unfolding computed computed_examples
accepted = refl

-- ---- the image of raw bytes. FORMAT 3 and 4

-- what attributes declare, by name
pub record Named : Type 0 where
  pub kind : ℕ
  pub quantity : Option ℕ
  pub unit : Option ℕ
  pub display_unit : Option ℕ
  pub min : Option ℕ
  pub max : Option ℕ
  pub nominal : Option ℕ
  pub unbounded : Bool
  pub unbounded_value : Bool

abbrev named : Attrs → Named
named a = record {
  kind = a.kind;
  quantity = declared_at a quantity_bit;
  unit = declared_at a unit_bit;
  display_unit = declared_at a display_unit_bit;
  min = declared_at a min_bit;
  max = declared_at a max_bit;
  nominal = declared_at a nominal_bit;
  unbounded = bit a.marks unbounded_bit;
  unbounded_value = bit a.marks unbounded_value_bit;
}

-- Out 0, and In 1 before and after it is filled
abbrev all_set : Named
all_set = record {
  kind = real_kind;
  quantity = Some 3;
  unit = Some 1;
  display_unit = Some 2;
  min = Some 0x3FF1020304050607;
  max = Some 0x40080A0B0C0D0E0F;
  nominal = Some 0x4000121314151617;
  unbounded = true;
  unbounded_value = true;
}

abbrev real_in_named : Option ℕ → Option ℕ → Option ℕ → Option ℕ → Named
real_in_named quantity unit min max = record {
  kind = real_kind;
  quantity = quantity;
  unit = unit;
  display_unit = None;
  min = min;
  max = max;
  nominal = None;
  unbounded = true;
  unbounded_value = false;
}

-- the boundary input
abbrev some_set : Named
some_set = record {
  kind = real_kind;
  quantity = Some 2;
  unit = None;
  display_unit = None;
  min = all_set.min;
  max = None;
  nominal = all_set.nominal;
  unbounded = false;
  unbounded_value = false;
}

-- Integer ends
abbrev integer_ends : Option ℕ → Option ℕ → Named
integer_ends min max = record {
  kind = integer_kind;
  quantity = None;
  unit = None;
  display_unit = None;
  min = min;
  max = max;
  nominal = None;
  unbounded = false;
  unbounded_value = false;
}

-- -7 and 258
abbrev low_end : Option ℕ
low_end = Some 0xFFFFFFFFFFFFFFF9

abbrev high_end : Option ℕ
high_end = Some 258

-- what a connector has besides its attributes
abbrev besides : Connector → List ℕ
besides c = c.id ∷ c.block ∷ c.dir ∷ c.value_type ∷ c.enum_class ∷ c.iri ∷ []

pub record RawRead : Type 0 where
  pub accepted : refusal raw_image ≡ None
  -- -2,147,483,648 and 2,147,483,647
  pub defaults : (model_of raw_image).defaults ≡ record { min = negsuc 0x7FFFFFFF; max = pos 0x7FFFFFFF }
  pub texts : (model_of raw_image).texts ≡ (0x4B ∷ []) ∷ (0x54 ∷ []) ∷ (0x43 ∷ []) ∷ (0x75 ∷ []) ∷ []
  pub blocks : (model_of raw_image).blocks ≡ record { id = 0; instance_iri = 3; inputs = 1 ∷ 3 ∷ []; outputs = 0 ∷ 2 ∷ [] } ∷ []
  pub connectors : map besides (model_of raw_image).connectors
      ≡ (0 ∷ 0 ∷ dir_out ∷ real_kind ∷ 0 ∷ no_text ∷ []) ∷ (1 ∷ 0 ∷ dir_in ∷ real_kind ∷ 0 ∷ 3 ∷ [])
      ∷ (2 ∷ 0 ∷ dir_out ∷ integer_kind ∷ 0 ∷ no_text ∷ []) ∷ (3 ∷ 0 ∷ dir_in ∷ integer_kind ∷ 0 ∷ no_text ∷ []) ∷ []
  pub attributes : map (λ c. named c.attrs) (model_of raw_image).connectors
      ≡ all_set ∷ real_in_named None None None None ∷ integer_ends low_end high_end ∷ integer_ends None None ∷ []
  pub connections : (model_of raw_image).connections ≡ record { from = 0; to = 1 } ∷ record { from = 2; to = 3 } ∷ []
  pub external_inputs : (model_of raw_image).external_inputs ≡ 1 ∷ []
  pub boundary_inputs : map (λ b. b.iri) (model_of raw_image).boundary_inputs ≡ 3 ∷ []
  pub input_attributes : map (λ b. named b.attrs) (model_of raw_image).boundary_inputs ≡ some_set ∷ []
  pub boundary_outputs : map (λ b. b.source ∷ b.iri ∷ []) (model_of raw_image).boundary_outputs ≡ (2 ∷ 1 ∷ []) ∷ []
  pub output_attributes : map (λ b. named b.attrs) (model_of raw_image).boundary_outputs ≡ integer_ends low_end None ∷ []
  pub filled : map (λ c. named c.attrs) (model_of raw_filled).connectors
      ≡ all_set ∷ real_in_named all_set.quantity all_set.unit all_set.min all_set.max ∷ integer_ends low_end high_end ∷ integer_ends low_end high_end ∷ []

pub raw-read : RawRead
unfolding computed computed_raw
raw-read = record {
  accepted = refl;
  defaults = refl;
  texts = refl;
  blocks = refl;
  connectors = refl;
  attributes = refl;
  connections = refl;
  external_inputs = refl;
  boundary_inputs = refl;
  input_attributes = refl;
  boundary_outputs = refl;
  output_attributes = refl;
  filled = refl;
}

-- the other way: attributes that are set by name, and their bytes. Unbounded is no attribute with a number
pub raw-written : attrs_bytes (real_with (quantity_bit is 3 ∷ unit_bit is 1 ∷ display_unit_bit is 2 ∷ min_bit is 0x3FF1020304050607 ∷ max_bit is 0x40080A0B0C0D0E0F ∷ nominal_bit is 0x4000121314151617 ∷ []))
    ≡ 0x00 ∷ 0x3F ∷ drop 2 raw_real_all
unfolding computed computed_build computed_raw
raw-written = refl
