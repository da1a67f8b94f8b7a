-- The layout of an accepted image, and what `accept` answers: refusals 1 to 8. FORMAT 3 and 6.
use Rattle.std.specs.Prelude.{ℕ, ◌≡◌, List, map, length}
use Rattle.std.specs.Prelude.{Option, Some, None, Result, Ok, Err}
use Rattle.base.specs.Buffers.{starts_with}
use Rattle.oce_model.specs.Format.{text_tag, block_tag, connector_tag, connection_tag, external_input_tag, boundary_input_tag, boundary_output_tag}
use Rattle.oce_model.specs.Image.{fields, of_tag, start_of}
use Rattle.oce_model.specs.Model.{model_of}
use Rattle.oce_model.specs.Refusals.{refusal}
use Rattle.oce_model.specs.declared.Refusal.{Refusal}
use Rattle.oce_model.specs.declared.Field.{Field}
use Rattle.image_accept.specs.declared.Section.{Section}
use Rattle.image_accept.specs.declared.Layout.{Layout}

-- where the records of a tag begin, and how many there are
unfoldable pub section_of : ℕ → List ℕ → Section
section_of t s = record { start = start_of t s; count = length (of_tag t (fields s)) }

-- where all records stand, and the head's Integer defaults
unfoldable pub layout_of : List ℕ → Layout
layout_of s = record {
  texts = section_of text_tag s;
  blocks = section_of block_tag s;
  connectors = section_of connector_tag s;
  connections = section_of connection_tag s;
  externals = section_of external_input_tag s;
  inputs = section_of boundary_input_tag s;
  outputs = section_of boundary_output_tag s;
  min = (model_of s).defaults.min;
  max = (model_of s).defaults.max;
}

-- the offsets of the fields with a tag
unfoldable pub offsets_of : ℕ → List ℕ → List ℕ
offsets_of t s = map (λ (f : Field). f.at) (of_tag t (fields s))

-- an answer: the refusal, or the layout
abbrev pub accepts : List ℕ → Option Refusal → Result Layout Refusal
accepts s None = Ok (layout_of s)
accepts s (Some r) = Err r

-- what `accept` answers
unfoldable pub acceptance : List ℕ → Result Layout Refusal
acceptance s = accepts s (refusal s)

-- a refusal, if there is one, as an error
abbrev pub refused : Option Refusal → Result (Unit {0}) Refusal
refused None = Ok tt
refused (Some r) = Err r

-- the same of refusal k at the offset that was found, if one was
abbrev pub refused_by : ℕ → Option ℕ → Result (Unit {0}) Refusal
refused_by k None = Ok tt
refused_by k (Some at) = Err (record { number = k; offset = at })

-- ---- what every later reader is given

-- s is accepted, and l is its layout
pub record Laid (s : List ℕ) (l : Layout) : Type 0 where
  pub accepted : refusal s ≡ None
  pub layout : l ≡ layout_of s

-- a table begins with the offsets of the fields with tag t
pub record Tabled (t : ℕ) (s table : List ℕ) : Type 0 where
  pub offsets : table ≡ starts_with (offsets_of t s) table

-- a table of offsets after `accept`; of a refused image nothing is said
pub record TabledIfAccepted (t : ℕ) (s table : List ℕ) : Type 0 where
  pub listed : refusal s ≡ None → Tabled t s table
