-- Demand 3, FORMAT 18, isn't empty: a model with two roots, a fan-out, boundary outputs of both, Real, Integer, Enum and String connectors and an In without a
-- connection, with a unit and ends that are filled, meets all its premises. Its premise on kinds is needed. And what its definitions say no to.
use Rattle.std.specs.Prelude.{Some}
use Prim.Native.Nat.{ℕ, ◌<◌}
use native.Mathlib.Decide.{dec_lt}
use native.Mathlib.Omega.{arith}
use mathlib.Core.Path.{◌≡◌, refl, sym}
use mathlib.Core.Bool.{Bool, true, false}
use mathlib.Core.List.{List, [], ◌∷◌, map, append-nil}
use Rattle.std.specs.Prelude.{None}
use lib.ListN.{length, take, drop, get_or-eq_default}
use lib.Dec.{eqb, ltb}
use lib.IntN.{pos}
use lib.Ieee.{Float, of_bits, lt, le, fits}
use borrow.Author.Tests.{eqb-true, ltb-true}
use Rattle.base.specs.Lists.{all}
use Rattle.base.specs.Buffers.{starts_with}
use Rattle.numbers.specs.Bytes.{byte, byte_range, word_range, long_range, real64}
use Rattle.oce_model.specs.Format.{quantity_bit, unit_bit}
use Rattle.oce_model.specs.Build.{◌is◌, real_with}
use Rattle.oce_model.specs.Examples.{kelvin, celsius, ten, twenty, zero+, a_nan, model_g, model_h, model_p}
use Rattle.oce_model.specs.declared.Attrs.{Attrs}
use Rattle.oce_model.specs.Model.{Connector, Model, model_of, no_connector, connector, connector_count, is_in}
use Rattle.oce_model.specs.Refusals.{refusal}
use Rattle.oce_diag.specs.Encoding.{report_bytes}
use Rattle.crossed_bounds.specs.Ranges.{range_of}
use Rattle.crossed_bounds.specs.Values.{Datum, real, integer, boolean, string, enum, of_type, inside}
use Rattle.crossed_bounds.specs.declared.Bounds.TheVariants.{Integer}
use Rattle.outcome.specs.Filled.{filled_of}
use Rattle.outcome.specs.Answer.{report_of, answer, filled_after, report_after}
use Rattle.std.specs.Prelude.{Ok}
use Rattle.oce_diag.specs.declared.Counted.{Counted}
use Rattle.moved.specs.Moved.{OfTypes, Left, Wired, arrivals, delivered, alike_units}
use Rattle.moved.specs.Witness.{witness_image, witness_filled, kelvin_again, season, unlike, computed_witness}
use Rattle.moved.specs.Computed.{computed}
use Rattle.base.proofs.Lists.{all-get_or}
use Rattle.moved.proofs.Bytes.{Bytes}
use Rattle.moved.proofs.SomeValue.{crossed-empty}
use Rattle.moved.proofs.Moved.{moved}

-- ---- tests that compute, for the premises that speak of every index

all-bytes : (s : List ℕ) → all (λ b. ltb b byte_range) s ≡ true → Bytes s
all-bytes s h i = arm (dec_lt i (length s))
  where
    arm : Dec (i < length s) → byte s i < byte_range
    arm (yes l) = ltb-true _ byte_range (all-get_or (λ b. ltb b byte_range) s i 0 h l)
    arm (no l) = rw (get_or-eq_default s 0 {n = i} (omega arith)) (omega arith)

of_types : (m : Model) → all (λ (c : Connector). eqb c.attrs.kind c.value_type) m.connectors ≡ true → OfTypes m
unfolding connector
of_types m h i l = eqb-true _ _ (all-get_or (λ (c : Connector). eqb c.attrs.kind c.value_type) m.connectors i no_connector h l)

-- ---- the model that meets the premises

abbrev nothing_counted : Counted
nothing_counted = record { errors = 0; warnings = 0 }

-- by computation: the premises, the answer, the report and the filled image; then which values arrive, in turn at In 1, 2, 4, 6 and 7, and which are delivered to the
-- boundary outputs
pub record Computes : Type 0 where
  pub bytes : all (λ b. ltb b byte_range) witness_image ≡ true
  pub kinds : all (λ (c : Connector). eqb c.attrs.kind c.value_type) (model_of witness_image).connectors ≡ true
  pub answered : answer witness_image (length witness_image) 0 ≡ Ok nothing_counted
  pub report : report_of witness_image ≡ []
  pub filled : filled_of witness_image ≡ witness_filled
  pub front : take (length witness_image) witness_filled ≡ witness_filled
  pub behind : drop (length witness_filled) witness_image ≡ []
  pub arrive : (x : ℕ → Datum) → map (arrivals (model_of witness_image) x) (1 ∷ 2 ∷ 4 ∷ 6 ∷ 7 ∷ []) ≡ (x 0 ∷ []) ∷ (x 0 ∷ []) ∷ (x 3 ∷ []) ∷ (x 5 ∷ []) ∷ (x 7 ∷ []) ∷ []
  pub deliver : (x : ℕ → Datum) → map (delivered (model_of witness_image) x) (model_of witness_image).boundary_outputs ≡ (x 0 ∷ []) ∷ (x 3 ∷ []) ∷ []

pub witness-computes : Computes
unfolding computed computed_witness of_bits lt
witness-computes = record {
  bytes = refl;
  kinds = refl;
  answered = refl;
  report = refl;
  filled = refl;
  front = refl;
  behind = refl;
  arrive = λ x. refl;
  deliver = λ x. refl;
}

-- a call whose filled buffer held the image and whose report buffer is empty
pub witness-filled : filled_after witness_image witness_image [] ≡ witness_filled
unfolding filled_after starts_with
witness-filled = let c = witness-computes in rw (c.answered, c.filled, c.behind) (append-nil witness_filled)

pub witness-report : report_after witness_image witness_image [] ≡ []
unfolding report_after starts_with report_bytes
witness-report = let c = witness-computes in rw (c.answered, c.report)

-- so what is said of values that move speaks of it: of what the call leaves, and of the two models
pub witness-left : Left witness_image 0 0 witness_filled []
witness-left =
    let c = witness-computes in
    (moved witness_image witness_image [] (Ok nothing_counted) witness_filled [] (all-bytes witness_image c.bytes) (sym c.answered) (sym witness-filled) (sym witness-report)).left nothing_counted refl

pub witness-wired : Wired (model_of witness_image) (model_of witness_filled)
witness-wired = rw witness-computes.front at (witness-left.wired refl (of_types (model_of witness_image) witness-computes.kinds))

-- ---- what the definitions say no to

abbrev with_unit : ℕ → Attrs
with_unit t = real_with (unit_bit is t ∷ [])

abbrev with_quantity : ℕ → Attrs
with_quantity t = real_with (quantity_bit is t ∷ [])

-- how values stand to the type, and to the filled range, of a connector of the witness
abbrev type_says : ℕ → List Datum → List Bool
type_says i vs = map (of_type (connector (model_of witness_image) i)) vs

abbrev range_says : ℕ → List Datum → List Bool
range_says i vs = let f = model_of witness_filled in map (inside (range_of f.defaults (connector f i).attrs)) vs

-- -1.0
abbrev minus_one : Float
minus_one = real64 0xBFF0000000000000

pub record SaysNo : Type 0 where
  -- a unit beside none, a quantity beside none, K beside degC; K is alike by its bytes, whatever its number
  pub unit_unset : alike_units (model_of witness_image) (with_unit kelvin) (real_with []) ≡ false
  pub unit_set : alike_units (model_of witness_image) (real_with []) (with_unit kelvin) ≡ false
  pub quantity_unset : alike_units (model_of witness_image) (with_quantity kelvin) (real_with []) ≡ false
  pub units_differ : alike_units (model_of witness_image) (with_unit kelvin) (with_unit celsius) ≡ false
  pub units_alike : alike_units (model_of witness_image) (with_unit kelvin) (with_unit kelvin_again) ≡ true
  -- a Real's value is a finite number; an Integer's has 64 bits; an Enum's has the class, and 4 bytes; a String's has bytes
  pub reals : type_says 0 (real (real64 ten) ∷ real (real64 a_nan) ∷ integer (pos 3) ∷ []) ≡ true ∷ false ∷ false ∷ []
  pub integers : type_says 3 (integer (pos 3) ∷ integer (pos long_range) ∷ boolean true ∷ []) ≡ true ∷ false ∷ false ∷ []
  pub enums : type_says 5 (enum season 0 ∷ enum 0 season ∷ enum season word_range ∷ []) ≡ true ∷ false ∷ false ∷ []
  pub strings : type_says 7 (string (0 ∷ []) ∷ string (byte_range ∷ []) ∷ enum 0 0 ∷ []) ≡ true ∷ false ∷ false ∷ []
  -- from 0.0 to 10.0; from 3 to 7; no range limits no value
  pub reals_inside : range_says 2 (real minus_one ∷ real (real64 zero+) ∷ real (real64 ten) ∷ real (real64 twenty) ∷ integer (pos 5) ∷ []) ≡ false ∷ true ∷ true ∷ false ∷ false ∷ []
  pub integers_inside : range_says 4 (integer (pos 2) ∷ integer (pos 3) ∷ integer (pos 7) ∷ integer (pos 8) ∷ real (real64 ten) ∷ []) ≡ false ∷ true ∷ true ∷ false ∷ false ∷ []
  pub rangeless : range_says 7 (string [] ∷ []) ≡ true ∷ []
  -- two connections to one In bring two values; one from no connector brings none, nor does one from an In that is connected
  pub two : (x : ℕ → Datum) → arrivals (model_of model_g) x 2 ≡ x 0 ∷ x 1 ∷ []
  pub nowhere : (x : ℕ → Datum) → arrivals (model_of model_h) x 1 ≡ x 0 ∷ []
  pub chained : (x : ℕ → Datum) → arrivals (model_of model_p) x 2 ≡ []

pub says-no : SaysNo
unfolding computed computed_witness of_bits lt le fits
says-no = record {
  unit_unset = refl;
  unit_set = refl;
  quantity_unset = refl;
  units_differ = refl;
  units_alike = refl;
  reals = refl;
  integers = refl;
  enums = refl;
  strings = refl;
  reals_inside = refl;
  integers_inside = refl;
  rangeless = refl;
  two = λ x. refl;
  nowhere = λ x. refl;
  chained = λ x. refl;
}

-- ---- the premise on kinds is needed

-- accepted and without a diagnostic, yet an In of type Real with attributes of kind Integer is filled to the range from 5 to 3
pub record Unlike : Type 0 where
  pub accepted : refusal unlike ≡ None
  pub no_diagnostic : report_of unlike ≡ []
  pub count : connector_count (model_of unlike) ≡ 3
  pub input : is_in (connector (model_of unlike) 1) ≡ true
  pub value_type : (connector (model_of unlike) 1).value_type ≡ 0
  pub kind : (connector (model_of unlike) 1).attrs.kind ≡ 1
  pub range : range_of (model_of (filled_of unlike)).defaults (connector (model_of (filled_of unlike)) 1).attrs ≡ Some (Integer (pos 5) (pos 3))

pub unlike-computed : Unlike
unfolding computed computed_witness of_bits lt
unlike-computed = record { accepted = refl; no_diagnostic = refl; count = refl; input = refl; value_type = refl; kind = refl; range = refl }

-- of this model parts 4 and 7 are false together
pub kinds-needed : Wired (model_of unlike) (model_of (filled_of unlike)) → ⊥
kinds-needed w =
    let e = w.exists in
    let p = w.inputs e.0 e.1 1 (rw unlike-computed.count (omega arith)) unlike-computed.input in
    crossed-empty 5 3 (omega arith) p.value (rw unlike-computed.range at p.ranged)
