-- Demand 3: values that move along connections. FORMAT 18.
--
-- It speaks of what one checking call leaves in its two buffers, wherever it isn't refused:
--   1. The answer's counts are those of the report that the rules define, and the report buffer starts with that report.
--   2. The filled buffer starts with the image in which nothing is changed but what rule 6 fills; with any error it is the image itself. It is an image that is accepted.
--
-- Inputs are the In connectors, outputs the Out connectors. An input is connected if a connection leads to it. Let one value be chosen for each output and for each input
-- that isn't connected, of its type and inside its filled range, which is the range of the attributes that the filled buffer holds. An input that isn't connected gets
-- the value chosen for it; any other gets, for each connection to it, the value chosen for the connection's `from`, if there is one; a boundary output gets the value
-- chosen for its source, if there is one. Where the report has no error, and every connector's attributes are of its type's kind:
--   3. All that the image declares is declared likewise in the filled one.
--   4. Every input gets exactly one value, which is of its type and inside its filled range.
--   5. Every boundary output gets exactly one value, which is of its kind and inside its filled range.
--   6. Filled unit and filled quantity are alike at both ends of every connection, and at every boundary output and its source: both unset, or both set with equal bytes.
--   7. There is such a choice of values. This is due where every Real end that the image sets is finite, and holds without that.
--
-- `Moved`, at the end of this file, is the demand, and what `check` promises; `Left` has parts 1 and 2, `Wired` parts 3 to 7.
use Rattle.std.specs.Prelude.{ℕ, ◌<◌, ◌≡◌, Bool, true, false, cond, not, ◌&&◌, ◌||◌, List, [], ◌∷◌, length, take}
use Rattle.std.specs.Prelude.{Option, Some, None, Ok}
use Rattle.base.specs.Lists.{each, only, below, same}
use Rattle.numbers.specs.Bytes.{bit}
use Rattle.oce_model.specs.Format.{quantity_bit, unit_bit, unbounded_bit, unbounded_value_bit, real_kind, min_bit, max_bit}
use Rattle.oce_model.specs.Attributes.{declared_at}
use Rattle.oce_model.specs.declared.Attrs.{Attrs}
use Rattle.oce_model.specs.Model.{Connector, BoundaryOutput, Model, model_of, text, connector, connection, boundary_input, boundary_output, connector_count, connection_count, boundary_input_count, boundary_output_count, is_connector, is_in}
use Rattle.oce_model.specs.Refusals.{refusal}
use Rattle.oce_diag.specs.Diagnostics.{errors, warnings}
use Rattle.oce_diag.specs.Encoding.{report_bytes}
use Rattle.oce_diag.specs.declared.Counted.{Counted}
use Rattle.structural.specs.Degrees.{leads_to}
use Rattle.crossed_bounds.specs.Ranges.{range_of, finite_end}
use Rattle.outcome.specs.Filled.{filled_of}
use Rattle.outcome.specs.Answer.{Answer, report_of}
use Rattle.crossed_bounds.specs.Values.{Datum, of_kind, of_type, inside}

-- ---- how values move

-- a connection leads to connector i
unfoldable pub connected : Model → ℕ → Bool
connected m i = below (connection_count m) (leads_to m i)

-- a value is chosen for connector i: it is an output, or an input that isn't connected
unfoldable pub chosen : Model → ℕ → Bool
chosen m i = is_connector m i && (not (is_in (connector m i)) || not (connected m i))

-- the list of values that input i gets, where x has the chosen ones: for each connection to it the value chosen for `from`, if there is one; its own if it isn't connected
unfoldable pub arrivals : Model → (ℕ → Datum) → ℕ → List Datum
arrivals m x i =
    cond (connected m i)
    (each (connection_count m) (λ k. only (leads_to m i k && chosen m (connection m k).from) (x (connection m k).from)))
    (x i ∷ [])

-- the list of values that a boundary output gets: the one chosen for its source, if there is one
unfoldable pub delivered : Model → (ℕ → Datum) → BoundaryOutput → List Datum
delivered m x o = only (chosen m o.source) (x o.source)

-- ---- what is the same in the image's model m and the filled one f

-- every attribute that a declares, b declares likewise
pub record Kept (a b : Attrs) : Type 0 where
  pub kind : b.kind ≡ a.kind
  pub unbounded : (bit b.marks unbounded_bit ≡ bit a.marks unbounded_bit) × (bit b.marks unbounded_value_bit ≡ bit a.marks unbounded_value_bit)
  pub vals : (p v : ℕ) → declared_at a p ≡ Some v → declared_at b p ≡ Some v

-- what a connector has besides its attributes
pub record SameConnector (c d : Connector) : Type 0 where
  pub id : d.id ≡ c.id
  pub block : d.block ≡ c.block
  pub dir : d.dir ≡ c.dir
  pub value_type : d.value_type ≡ c.value_type
  pub enum_class : d.enum_class ≡ c.enum_class
  pub iri : d.iri ≡ c.iri

-- f is m, apart from the attributes of connectors and boundary outputs
pub record Same (m f : Model) : Type 0 where
  pub defaults : f.defaults ≡ m.defaults
  pub texts : f.texts ≡ m.texts
  pub blocks : f.blocks ≡ m.blocks
  pub connector_count : length f.connectors ≡ length m.connectors
  pub connectors : (i : ℕ) → i < length m.connectors → SameConnector (connector m i) (connector f i)
  pub connections : f.connections ≡ m.connections
  pub external_inputs : f.external_inputs ≡ m.external_inputs
  pub boundary_inputs : f.boundary_inputs ≡ m.boundary_inputs
  pub output_count : length f.boundary_outputs ≡ length m.boundary_outputs
  pub boundary_outputs : (i : ℕ) → i < length m.boundary_outputs
      → ((boundary_output f i).iri ≡ (boundary_output m i).iri) × ((boundary_output f i).source ≡ (boundary_output m i).source)

-- ---- units and quantities

-- two texts are alike: both unset, or both set with equal bytes
abbrev pub alike : Model → Option ℕ → Option ℕ → Bool
alike m None None = true
alike m None (Some v) = false
alike m (Some u) None = false
alike m (Some u) (Some v) = same (text m u) (text m v)

unfoldable pub alike_units : Model → Attrs → Attrs → Bool
alike_units m a b = alike m (declared_at a unit_bit) (declared_at b unit_bit) && alike m (declared_at a quantity_bit) (declared_at b quantity_bit)

-- ---- parts 3 to 7, over the image's model m and the filled one f

-- x chooses one value for each output and each input that isn't connected, of its type and inside its filled range
abbrev pub Choice : Model → Model → (ℕ → Datum) → Type 0
Choice m f x = (i : ℕ) → chosen m i ≡ true → (of_type (connector m i) (x i) ≡ true) × (inside (range_of f.defaults (connector f i).attrs) (x i) ≡ true)

-- input i gets a value, no other, of its type and inside its filled range
pub record ArrivesAt (m f : Model) (x : ℕ → Datum) (i : ℕ) : Type 0 where
  pub value : Datum
  pub one : arrivals m x i ≡ value ∷ []
  pub typed : of_type (connector m i) value ≡ true
  pub ranged : inside (range_of f.defaults (connector f i).attrs) value ≡ true

-- boundary output i gets a value, no other, of its kind and inside its filled range
pub record DeliveredTo (m f : Model) (x : ℕ → Datum) (i : ℕ) : Type 0 where
  pub value : Datum
  pub one : delivered m x (boundary_output m i) ≡ value ∷ []
  pub typed : of_kind (boundary_output m i).attrs.kind value ≡ true
  pub ranged : inside (range_of f.defaults (boundary_output f i).attrs) value ≡ true

pub record Wired (m f : Model) : Type 0 where
  -- 2, of models: f is m, apart from attributes of slots
  pub same : Same m f
  -- 3
  pub kept_connectors : (i : ℕ) → i < connector_count m → Kept (connector m i).attrs (connector f i).attrs
  pub kept_inputs : (i : ℕ) → i < boundary_input_count m → Kept (boundary_input m i).attrs (boundary_input f i).attrs
  pub kept_outputs : (i : ℕ) → i < boundary_output_count m → Kept (boundary_output m i).attrs (boundary_output f i).attrs
  -- 4
  pub inputs : (x : ℕ → Datum) → Choice m f x → (i : ℕ) → i < connector_count m → is_in (connector m i) ≡ true → ArrivesAt m f x i
  -- 5
  pub outputs : (x : ℕ → Datum) → Choice m f x → (i : ℕ) → i < boundary_output_count m → DeliveredTo m f x i
  -- 6
  pub units_in : (k : ℕ) → k < connection_count m
      → alike_units f (connector f (connection m k).to).attrs (connector f (connection m k).from).attrs ≡ true
  pub units_out : (i : ℕ) → i < boundary_output_count m
      → alike_units f (boundary_output f i).attrs (connector f (boundary_output m i).source).attrs ≡ true
  -- 7, without the premise on finite ends: a Real range with an end that isn't finite limits nothing
  pub exists : (x : ℕ → Datum) × Choice m f x

-- the premise of parts 3 to 7: every connector's attributes are of its type's kind
abbrev pub OfTypes : Model → Type 0
OfTypes m = (i : ℕ) → i < connector_count m → (connector m i).attrs.kind ≡ (connector m i).value_type

-- the premise under which part 7 is due: every Real end that the image sets is finite
pub record FiniteEnds (m : Model) : Type 0 where
  pub connectors : (i : ℕ) → i < connector_count m → (connector m i).attrs.kind ≡ real_kind
      → (finite_end (declared_at (connector m i).attrs min_bit) && finite_end (declared_at (connector m i).attrs max_bit)) ≡ true
  pub inputs : (i : ℕ) → i < boundary_input_count m → (boundary_input m i).attrs.kind ≡ real_kind
      → (finite_end (declared_at (boundary_input m i).attrs min_bit) && finite_end (declared_at (boundary_input m i).attrs max_bit)) ≡ true
  pub outputs : (i : ℕ) → i < boundary_output_count m → (boundary_output m i).attrs.kind ≡ real_kind
      → (finite_end (declared_at (boundary_output m i).attrs min_bit) && finite_end (declared_at (boundary_output m i).attrs max_bit)) ≡ true

-- ---- the demand

-- s is the image, the answer has e errors and w warnings, f and r are the filled buffer and the report buffer after the call
pub record Left (s : List ℕ) (e w : ℕ) (f r : List ℕ) : Type 0 where
  -- 1
  pub counts : (e ≡ errors (report_of s)) × (w ≡ warnings (report_of s))
  pub report : take (length (report_bytes (report_of s))) r ≡ report_bytes (report_of s)
  -- 2
  pub filled : take (length s) f ≡ filled_of s
  pub undone : 0 < e → take (length s) f ≡ s
  pub again : refusal (take (length s) f) ≡ None
  -- 3 to 7, of the model that is read again from the filled buffer
  pub wired : e ≡ 0 → OfTypes (model_of s) → Wired (model_of s) (model_of (take (length s) f))

-- s is the image, a the answer, f and r are the two buffers after the call
pub record Moved (s : List ℕ) (a : Answer) (f r : List ℕ) : Type 0 where
  pub left : (c : Counted) → a ≡ Ok c → Left s c.errors c.warnings f r
